-- The parts of a command behind its first line (git's documentation, git-fast-import, "commit", "tag", "reset" and "blob"; git-fast-export, "--show-original-ids").
use Rattle.std.specs.Prelude.{Bool, true, false, List, [], ◌∷◌, ℕ, codes}
use Rattle.fast_export.specs.declared.grammar.Word.{Word}
use Rattle.fast_export.specs.declared.grammar.Word.TheVariants as words
use Rattle.fast_export.specs.declared.grammar.Part.{Part}
use Rattle.fast_export.specs.declared.grammar.Part.TheVariants as parts
use Rattle.fast_export.specs.declared.grammar.Command.{Command}
use Rattle.fast_export.specs.declared.grammar.Command.TheVariants as commands

-- what the first line of a command says
abbrev pub Opening : Type 0
Opening = Command

abbrev pub word_text : Word → List ℕ
word_text words.OriginalOid = codes "original-oid "
word_text words.Author = codes "author "
word_text words.Committer = codes "committer "
word_text words.Encoding = codes "encoding "
word_text words.Tagger = codes "tagger "
word_text words.From = codes "from "

abbrev pub commit_parts : List Part
commit_parts =
    parts.CommitMark ∷ parts.CommitId ∷ parts.May words.Author ∷ parts.Needs words.Committer ∷ parts.May words.Encoding
    ∷ parts.Data ∷ parts.Blank ∷ parts.Parent ∷ parts.Merges ∷ parts.Files ∷ parts.Blank ∷ []

abbrev pub blob_parts : List Part
blob_parts = parts.Mark ∷ parts.May words.OriginalOid ∷ parts.Data ∷ parts.Blank ∷ []

abbrev pub tag_parts : List Part
tag_parts =
    parts.Mark ∷ parts.Needs words.From ∷ parts.May words.OriginalOid ∷ parts.May words.Tagger ∷ parts.Data ∷ parts.Blank ∷ []

abbrev pub reset_parts : List Part
reset_parts = parts.Start ∷ []

abbrev pub parts_of : Command → List Part
parts_of commands.Commit = commit_parts
parts_of commands.Blob = blob_parts
parts_of commands.Tag = tag_parts
parts_of commands.Reset = reset_parts
parts_of commands.Note = []
parts_of commands.Promise = []
parts_of commands.Done = []

-- the line ends the stream
abbrev pub is_done : Command → Bool
is_done commands.Commit = false
is_done commands.Blob = false
is_done commands.Tag = false
is_done commands.Reset = false
is_done commands.Note = false
is_done commands.Promise = false
is_done commands.Done = true

-- the line says that `done` will come
abbrev pub promises : Command → Bool
promises commands.Commit = false
promises commands.Blob = false
promises commands.Tag = false
promises commands.Reset = false
promises commands.Note = false
promises commands.Promise = true
promises commands.Done = false

-- a stream may end before the part: behind a reset, and behind the bytes of `data`
abbrev pub may_end : Part → Bool
may_end parts.Mark = false
may_end parts.CommitMark = false
may_end parts.CommitId = false
may_end (parts.May w) = false
may_end (parts.Needs w) = false
may_end parts.Start = true
may_end parts.Data = false
may_end parts.Blank = true
may_end parts.Parent = true
may_end parts.Merges = true
may_end parts.Files = true

-- the part may come more than once
abbrev pub repeats : Part → Bool
repeats parts.Mark = false
repeats parts.CommitMark = false
repeats parts.CommitId = false
repeats (parts.May w) = false
repeats (parts.Needs w) = false
repeats parts.Start = false
repeats parts.Data = false
repeats parts.Blank = false
repeats parts.Parent = false
repeats parts.Merges = true
repeats parts.Files = true
