-- What a stream says (git's documentation, git-fast-import, "Input format", and git-fast-export, "--show-original-ids"): a list of commands, each of its parts.
use Rattle.std.specs.Prelude.{ℕ, zero, suc, ◌+◌, Bool, true, if◌then◌else◌, ◌&&◌, not, nat_lt, Result, Ok, Err, List, [], ◌∷◌, length, drop}
use Rattle.osv_prim.specs.declared.oid.CommitRow.{CommitRow}
use Rattle.fast_export.specs.declared.fault.StreamFault.{StreamFault}
use Rattle.fast_export.specs.declared.fault.StreamFault.TheVariants as faults
use Rattle.fast_export.specs.declared.grammar.Part.{Part}
use Rattle.fast_export.specs.declared.grammar.Command.{Command}
use Rattle.fast_export.specs.Lines.{Lined, Line, Nothing, Cut, TooLong, line_of}
use Rattle.fast_export.specs.Grammar.{may_end, repeats, parts_of, is_done}
use Rattle.fast_export.specs.Facts.{Facts, start, settled, rows_of, Answer, Took, Counts, Passed, Refused, takes, opens, with_line}

-- a fault, which every longer text has too; the rows, where the text may end here; or a text that has to go on
pub data Outcome : Type 0 where
  Bad : StreamFault → Outcome
  Whole : List CommitRow → Outcome
  Short : Outcome

-- behind a part: what is known, and the text that is left with its offset. Or the text has said what it is.
pub data Step : Type 0 where
  Next : Facts → ℕ → List ℕ → Step
  Stop : Outcome → Step

infixl 10 ◌>>=◌
abbrev pub ◌>>=◌ : Step → (Facts → ℕ → List ℕ → Step) → Step
(Next f at text) >>= onward = onward f at text
(Stop o) >>= onward = Stop o

-- ---- one after another

pub data Turn : Type 0 where
  Again : Facts → ℕ → List ℕ → Turn
  Over : Step → Turn

abbrev pub turned : Turn → (Facts → ℕ → List ℕ → Step) → Step
turned (Again f at text) onward = onward f at text
turned (Over s) onward = s

unfoldable pub repeated : (Facts → ℕ → List ℕ → Turn) → ℕ → Facts → ℕ → List ℕ → Step
repeated turn zero f at text = Stop Short
repeated turn (suc n) f at text = turned (turn f at text) (repeated turn n)

-- each takes a byte at least, so there are no more of them than bytes
unfoldable pub all : (Facts → ℕ → List ℕ → Turn) → Facts → ℕ → List ℕ → Step
all turn f at text = repeated turn (suc (length text)) f at text

-- ---- the end of the text, and counted bytes

abbrev pub at_end : Bool → Facts → Outcome
at_end may f = if may && not f.promised then Whole (rows_of f) else Short

unfoldable pub skipping : ℕ → Facts → ℕ → List ℕ → Step
skipping n f at text = if nat_lt (length text) n then Stop Short else Next f (at + n) (drop n text)

-- ---- a part of a command

abbrev pub answered : Answer → Facts → ℕ → List ℕ → Step → Turn
answered (Took g) f at more back = Again g at more
answered (Counts n) f at more back = Over (skipping n f at more)
answered Passed f at more back = Over back
answered (Refused e) f at more back = Over (Stop (Bad e))

abbrev pub on_line : Part → Facts → ℕ → List ℕ → Lined → Turn
on_line p f at text (Line line more) = answered (takes p f at line) f (at + (length line + 1)) more (Next f at text)
on_line p f at text Nothing = Over (Stop (at_end (may_end p) f))
on_line p f at text Cut = Over (Stop Short)
on_line p f at text TooLong = Over (Stop (Bad (faults.LineTooLong at)))

abbrev pub turn : Part → Facts → ℕ → List ℕ → Turn
turn p f at text = on_line p f at text (line_of text)

unfoldable pub part : Part → Facts → ℕ → List ℕ → Step
part p f at text = if repeats p then all (turn p) f at text else turned (turn p f at text) Next

unfoldable pub parts : List Part → Facts → ℕ → List ℕ → Step
parts [] f at text = Next f at text
parts (p ∷ ps) f at text = part p f at text >>= parts ps

-- ---- a command

abbrev pub behind_command : Step → Turn
behind_command (Next f at text) = Again f at text
behind_command (Stop o) = Over (Stop o)

-- behind the first line of a command, and behind `done` the rows
abbrev pub opened : Result Command StreamFault → Facts → ℕ → List ℕ → Turn
opened (Err e) f at more = Over (Stop (Bad e))
opened (Ok c) f at more = if is_done c then Over (Stop (Whole f.rows)) else behind_command (parts (parts_of c) (with_line c f) at more)

abbrev pub on_first_line : ℕ → Facts → ℕ → Lined → Turn
on_first_line most f at (Line line more) = opened (opens most (length (rows_of f)) at line) (settled f) (at + (length line + 1)) more
on_first_line most f at Nothing = Over (Stop (at_end true f))
on_first_line most f at Cut = Over (Stop Short)
on_first_line most f at TooLong = Over (Stop (Bad (faults.LineTooLong at)))

unfoldable pub command : ℕ → Facts → ℕ → List ℕ → Turn
command most f at text = on_first_line most f at (line_of text)

-- ---- a whole text

abbrev pub outcome : Step → Outcome
outcome (Next f at text) = Short
outcome (Stop o) = o

-- what a text is, where at most so many commits may come
unfoldable pub stream : List ℕ → ℕ → Outcome
stream text most = outcome (all (command most) start 0 text)

abbrev pub IsNoFault : Outcome → Type 0
IsNoFault (Bad e) = ⊥
IsNoFault (Whole rows) = Unit {0}
IsNoFault Short = Unit {0}

-- what is answered at the end of a text of n bytes
abbrev pub answer : ℕ → Outcome → Result (List CommitRow) StreamFault
answer n (Bad e) = Err e
answer n (Whole rows) = Ok rows
answer n Short = Err (faults.Ended n)
