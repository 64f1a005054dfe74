-- What comes of an input whose lines are read as they come (our own).
use Rattle.std.specs.Prelude.{◌≡◌, ◌≤◌, ◌<◌, ℕ, List, [], ◌∷◌, ◌++◌, length, Option, Some, None, Ok, Err, IsOk}
use Rattle.std.specs.Io.KnownBytes.{IsAtEnd}
use Rattle.osv_prim.specs.Repos.{normal_repo}
use Rattle.osv_prim.specs.Results.{each}
use Rattle.osv_prim.specs.declared.stop.Stop.{Stop}
use Rattle.osv_prim.specs.declared.stop.Stop.TheVariants as stops
use Rattle.osv_prim.specs.declared.subject.Subject.{Subject}
use Rattle.osv_record.specs.Advisories.{Advisory}
use Rattle.evaluate.specs.Kept.{KeepsEntries}
use Rattle.evaluate.specs.declared.git_imports.GitImports.{GitImports}
use Rattle.fast_export.specs.Reads.{Reads}
use Rattle.fast_export.specs.declared.reader.Reader.{Reader}
use Rattle.settings.specs.declared.TheConstants.{MAX_COMMITS}
use Rattle.line_input.specs.Reader.{Holds, KnowsEnd, StandsIn}
use Rattle.line_input.specs.declared.stop.ReadStop.TheVariants.{Memory}
use Rattle.line_input.specs.declared.reader.LineReader.{LineReader}
use Rattle.ask.specs.Asked.{answer_to_parts, ids_output}
use Rattle.ask.specs.Commits.{graph_in, repos_of}
use Rattle.ask.specs.Line.{read_line}
use Rattle.ask.specs.Parts.{Parts}
use Rattle.ask.specs.declared.commits.CommitFault.{CommitFault}
use Rattle.ask.specs.declared.line.LineFault.{LineFault}
use Rattle.ask.specs.declared.parts.ReadParts.{ReadParts}
use Rattle.ask.specs.declared.stop.InputStop.{InputStop}
use Rattle.ask.specs.declared.stop.InputStop.TheVariants.{Line, Commits, TooLarge, Read}

abbrev pub no_memory : InputStop
no_memory = Read Memory

abbrev pub line_stop : Stop LineFault → InputStop
line_stop stops.Memory = no_memory
line_stop (stops.Refused e) = Line e

abbrev pub commits_stop : Stop CommitFault → InputStop
commits_stop stops.Memory = no_memory
commits_stop (stops.Refused e) = Commits e

-- Why an input with these parts has no ids: the first refused line, behind which the reader stands; or that there
-- is no graph, all lines being read; or that it is larger than the limit. Of a failed read nothing is said.
abbrev pub Stops : List ℕ → Parts → InputStop → LineReader → Option (List ℕ) → Type 0
Stops input parts (Line e) r left = (each read_line parts.advisories ≡ Err e) × StandsIn input r left
Stops input parts (Commits e) r left = IsOk (each read_line parts.advisories) × (repos_of parts.repo ≡ Err e) × (length input ≤ r.limit)
Stops input parts TooLarge r left = r.limit < length input
Stops input parts (Read s) r left = Unit {0}

-- The ids are the answer to an input with these parts, which is within the limit.
pub record Finds (input : List ℕ) (parts : Parts) (limit : ℕ) (subject : Subject) (ids : List (List ℕ)) : Type 0 where
  pub answer : answer_to_parts subject parts ≡ ids_output ids
  pub within : length input ≤ limit

-- ---- the repository

-- The named repository has this key, and the reader stands before its stream; or none is named, and the input was read to its end.
abbrev pub NamesRepo : List ℕ → Option (List ℕ × List ℕ) → Option (List ℕ) → LineReader → Option (List ℕ) → Type 0
NamesRepo input named None r left = (named ≡ None) × (length input ≤ r.limit)
NamesRepo input named (Some key) r left =
    (url : List ℕ) × (text : List ℕ) × (named ≡ Some (url, text)) × (key ≡ normal_repo url) × Holds text (length input) r left

-- the advisories were read and kept, and the repository is the one that is named
pub record ReadsParts (input : List ℕ) (parts : Parts) (read : ReadParts) (r : LineReader) (left : Option (List ℕ)) : Type 0 where
  pub imports : List Advisory
  pub advisories : each read_line parts.advisories ≡ Ok imports
  pub kept : KeepsEntries imports read.kept
  pub repo : NamesRepo input parts.repo read.repo r left

-- the line was read, and its advisory is one more import
abbrev pub KeepsLine : ℕ × List ℕ → GitImports → GitImports → Type 0
KeepsLine line old new =
    (r : Advisory) × (read_line line ≡ Ok r) × ((imports : List Advisory) → KeepsEntries imports old → KeepsEntries (imports ++ r ∷ []) new)

-- where no repository is named the source is at its end, else the reader knows it
abbrev pub MindsRepo : Option (List ℕ) → LineReader → Option (List ℕ) → Type 0
MindsRepo None r left = IsAtEnd left
MindsRepo (Some key) r left = KnowsEnd r left

-- why there is no graph of a text, of an input with so many bytes
abbrev pub GraphStops : List ℕ → ℕ → ℕ → InputStop → Type 0
GraphStops text total limit (Line e) = ⊥
GraphStops text total limit (Commits e) = (graph_in text ≡ Err e) × (total ≤ limit)
GraphStops text total limit TooLarge = limit < total
GraphStops text total limit (Read s) = Unit {0}

-- a text was read as a stream, or the input, of so many bytes, is larger than the limit
abbrev pub FeedsStream : List ℕ → ℕ → ℕ → Option Reader → Type 0
FeedsStream text total limit None = limit < total
FeedsStream text total limit (Some stream) = Reads MAX_COMMITS text stream × (total ≤ limit)
