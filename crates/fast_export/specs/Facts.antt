-- What is known from the front of a stream, and what a part of a command does with a line (git's documentation, git-fast-import, "mark", "original-oid", "data", "commit").
use Rattle.std.specs.Prelude.{ℕ, Bool, true, false, if◌then◌else◌, ◌&&◌, ◌==◌, not, List, [], ◌∷◌, ◌++◌, length, Option, Some, None, option_and_then, is_some, Result, Ok, Err, nat_le, codes}
use Rattle.std.specs.Option.{option_map_or}
use Rattle.std.specs.Str.{bytes_eq}
use Rattle.osv_prim.specs.Oids.{oid_of}
use Rattle.osv_prim.specs.declared.oid.CommitRow.{CommitRow}
use Rattle.fast_export.specs.declared.fault.StreamFault.{StreamFault}
use Rattle.fast_export.specs.declared.fault.StreamFault.TheVariants as faults
use Rattle.fast_export.specs.declared.grammar.Part.{Part}
use Rattle.fast_export.specs.declared.grammar.Part.TheVariants as parts
use Rattle.fast_export.specs.declared.grammar.Command.{Command}
use Rattle.fast_export.specs.declared.grammar.Command.TheVariants as commands
use Rattle.osv_prim.specs.Numerals.{u64_of}
use Rattle.fast_export.specs.Lines.{behind, begins, mark_of, mark_digits, is_file, is_inline}
use Rattle.fast_export.specs.Grammar.{word_text, promises}

-- the rows and the marks of the earlier commits, and of the last commit its mark, its id and its parents
pub record Facts : Type 0 where
  pub rows : List CommitRow
  pub marks : ℕ → Option (List ℕ)
  pub mark : Option ℕ
  pub oid : Option (List ℕ)
  pub parents : List (List ℕ)
  -- `feature done` was read
  pub promised : Bool

abbrev pub start : Facts
start = record { rows = []; marks = λ n. None; mark = None; oid = None; parents = []; promised = false }

-- ---- the last commit becomes an earlier one

abbrev pub marked : Option ℕ → List ℕ → (ℕ → Option (List ℕ)) → ℕ → Option (List ℕ)
marked None oid marks = marks
marked (Some n) oid marks = λ k. if n == k then Some oid else marks k

abbrev pub with_last : Option (List ℕ) → Facts → Facts
with_last None f = f
with_last (Some oid) f =
    record {
      rows = f.rows ++ record { oid = oid; parents = f.parents } ∷ [];
      marks = marked f.mark oid f.marks;
      mark = None;
      oid = None;
      parents = [];
      promised = f.promised;
    }

abbrev pub settled : Facts → Facts
settled f = with_last f.oid f

-- the rows of all commits
abbrev pub rows_of : Facts → List CommitRow
rows_of f = (settled f).rows

-- ---- what a part does with the line that begins at `at`

pub data Answer : Type 0 where
  -- the line is the part's
  Took : Facts → Answer
  -- the line is the part's, and so many bytes follow it
  Counts : ℕ → Answer
  -- the line is another part's
  Passed : Answer
  Refused : StreamFault → Answer

unfoldable pub mark_line : Facts → ℕ → List ℕ → Answer
mark_line f at line =
    option_map_or (λ text. option_map_or (λ n. Took f) (mark_of text) (Refused (faults.BadLine at))) (behind (codes "mark ") line) Passed

-- a mark stands for one commit
abbrev pub marks_commit : Facts → ℕ → ℕ → Answer
marks_commit f at n = if is_some (f.marks n) then Refused (faults.MarkTwice at) else Took (record f { mark = Some n })

unfoldable pub commit_mark : Facts → ℕ → List ℕ → Answer
commit_mark f at line =
    option_map_or (λ text. option_map_or (marks_commit f at) (mark_of text) (Refused (faults.BadLine at))) (behind (codes "mark ") line) Passed

unfoldable pub commit_id : Facts → ℕ → List ℕ → Answer
commit_id f at line =
    option_map_or (λ text. option_map_or (λ oid. Took (record f { oid = Some oid })) (oid_of text) (Refused (faults.BadOid at)))
    (behind (codes "original-oid ") line) (Refused (faults.NoOriginalOid at))

unfoldable pub data_line : ℕ → List ℕ → Answer
data_line at line =
    option_map_or (λ text. option_map_or (λ n. Counts n) (u64_of text) (Refused (faults.BadData at))) (behind (codes "data ") line)
    (Refused (faults.BadLine at))

abbrev pub known : ℕ → Option (List ℕ) → Result (List ℕ) StreamFault
known at oid = option_map_or (λ o. Ok o) oid (Err (faults.UnknownMark at))

-- a parent by its mark, which an earlier commit has
unfoldable pub by_mark : (ℕ → Option (List ℕ)) → ℕ → List ℕ → Result (List ℕ) StreamFault
by_mark marks at text =
    option_map_or (λ digits. known at (option_and_then marks (u64_of digits))) (mark_digits text) (Err (faults.RefParent at))

-- a parent by its id or by its mark
unfoldable pub parent_of : (ℕ → Option (List ℕ)) → ℕ → List ℕ → Result (List ℕ) StreamFault
parent_of marks at text = option_map_or (λ o. Ok o) (oid_of text) (by_mark marks at text)

abbrev pub with_parent : Facts → Result (List ℕ) StreamFault → Answer
with_parent f (Ok oid) = Took (record f { parents = f.parents ++ oid ∷ [] })
with_parent f (Err e) = Refused e

abbrev pub parent_text : Facts → ℕ → List ℕ → Answer
parent_text f at text = with_parent f (parent_of f.marks at text)

unfoldable pub parent_line : Facts → ℕ → List ℕ → Answer
parent_line f at line = option_map_or (parent_text f at) (behind (codes "from ") line) Passed

-- only a commit with a `from` has further parents
unfoldable pub merge_line : Facts → ℕ → List ℕ → Answer
merge_line f at line = if length f.parents == 0 then Passed else option_map_or (parent_text f at) (behind (codes "merge ") line) Passed

unfoldable pub file_line : Facts → ℕ → List ℕ → Answer
file_line f at line = if is_file line then (if is_inline line then Refused (faults.BadLine at) else Took f) else Passed

unfoldable pub takes : Part → Facts → ℕ → List ℕ → Answer
takes parts.Mark f at line = mark_line f at line
takes parts.CommitMark f at line = commit_mark f at line
takes parts.CommitId f at line = commit_id f at line
takes (parts.May word) f at line = if begins (word_text word) line then Took f else Passed
takes (parts.Needs word) f at line = if begins (word_text word) line then Took f else Refused (faults.BadLine at)
takes parts.Start f at line = if begins (codes "from ") line then Took f else Passed
takes parts.Data f at line = data_line at line
takes parts.Blank f at line = if length line == 0 then Took f else Passed
takes parts.Parent f at line = parent_line f at line
takes parts.Merges f at line = merge_line f at line
takes parts.Files f at line = file_line f at line

-- ---- the first line of a command

-- a word, a space, and a text that is not empty
abbrev pub names : List ℕ → List ℕ → Bool
names word line = begins word line && not (length line == length word)

unfoldable pub plain_command : List ℕ → Option Command
plain_command line =
    if length line == 0 then Some commands.Note
    else if bytes_eq line (codes "blob") then Some commands.Blob
    else if bytes_eq line (codes "checkpoint") then Some commands.Note
    else if bytes_eq line (codes "done") then Some commands.Done
    else if bytes_eq line (codes "feature done") then Some commands.Promise
    else None

unfoldable pub named_command : List ℕ → Option Command
named_command line =
    if names (codes "tag ") line then Some commands.Tag
    else if names (codes "reset ") line then Some commands.Reset
    else if names (codes "feature ") line then Some commands.Note
    else if names (codes "option ") line then Some commands.Note
    else if names (codes "progress ") line then Some commands.Note
    else None

unfoldable pub other_command : List ℕ → Option Command
other_command line = option_map_or (λ c. Some c) (plain_command line) (named_command line)

-- the command that a line begins, where so many commits came before it and at most `most` may come
unfoldable pub opens : ℕ → ℕ → ℕ → List ℕ → Result Command StreamFault
opens most count at line =
    if names (codes "commit ") line then (if nat_le most count then Err (faults.TooManyCommits at) else Ok commands.Commit)
    else option_map_or (λ c. Ok c) (other_command line) (Err (faults.BadLine at))

-- what the line itself tells
abbrev pub with_line : Command → Facts → Facts
with_line c f = if promises c then record f { promised = true } else f
