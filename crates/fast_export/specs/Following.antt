-- A text line after line: what is left of it where these parts come next, and what one line does.
use Rattle.std.specs.Prelude.{ℕ, Bool, true, if◌then◌else◌, Result, Ok, Err, List, [], ◌∷◌, length}
use Rattle.fast_export.specs.declared.fault.StreamFault.{StreamFault}
use Rattle.fast_export.specs.declared.grammar.Part.{Part}
use Rattle.fast_export.specs.declared.grammar.Command.{Command}
use Rattle.fast_export.specs.Grammar.{may_end, repeats, parts_of, is_done}
use Rattle.fast_export.specs.Facts.{Facts, settled, rows_of, Answer, Took, Counts, Passed, Refused, takes, opens, with_line}
use Rattle.fast_export.specs.Stream.{Step, Stop, ◌>>=◌, Bad, Whole, all, parts, command, skipping}

-- what is left of a text, where these parts come next and then further commands
unfoldable pub left : ℕ → List Part → Facts → ℕ → List ℕ → Step
left most ps f at text = parts ps f at text >>= all (command most)

-- a text may end here
abbrev pub may_end_at : List Part → Bool
may_end_at [] = true
may_end_at (p ∷ ps) = may_end p

-- what one line does, where these parts come next
pub data Offered : Type 0 where
  -- so many bytes follow it, and then these parts
  Goes : List Part → ℕ → Facts → Offered
  -- the line `done`
  Ends : Facts → Offered
  Refuses : StreamFault → Offered

abbrev pub first_line : Result Command StreamFault → Facts → Offered
first_line (Err e) f = Refuses e
first_line (Ok c) f = if is_done c then Ends f else Goes (parts_of c) 0 (with_line c f)

abbrev pub with_answer : Part → List Part → Facts → Answer → Offered → Offered
with_answer p ps f (Took g) others = Goes (if repeats p then p ∷ ps else ps) 0 g
with_answer p ps f (Counts n) others = Goes ps n f
with_answer p ps f Passed others = others
with_answer p ps f (Refused e) others = Refuses e

unfoldable pub offered : ℕ → List Part → Facts → ℕ → List ℕ → Offered
offered most [] f at line = first_line (opens most (length (rows_of f)) at line) (settled f)
offered most (p ∷ ps) f at line = with_answer p ps f (takes p f at line) (offered most ps f at line)

-- the text behind the line
abbrev pub behind_line : ℕ → Offered → ℕ → List ℕ → Step
behind_line most (Goes ps n f) at more = skipping n f at more >>= left most ps
behind_line most (Ends f) at more = Stop (Whole f.rows)
behind_line most (Refuses e) at more = Stop (Bad e)
