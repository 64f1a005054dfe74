-- What holds of each stream (git's documentation, git-fast-import, "Input format").
use Rattle.std.specs.Prelude.{◌≡◌, ◌↔◌, ◌<◌, ◌≤◌, ℕ, true, List, ◌∷◌, ◌++◌, length, Err, codes}
use Rattle.fast_export.specs.declared.fault.StreamFault.{StreamFault}
use Rattle.fast_export.specs.declared.fault.StreamFault.TheVariants as faults
use Rattle.fast_export.specs.declared.grammar.Part.{Part}
use Rattle.fast_export.specs.Lines.{IsClean, max_line_bytes, begins}
use Rattle.fast_export.specs.Facts.{Facts}
use Rattle.fast_export.specs.Following.{left, Goes, offered}
use Rattle.fast_export.specs.Stream.{Bad, Short, outcome, stream, answer}

-- a fault stays, however the text goes on
abbrev pub FaultsStay : Type 0
FaultsStay = (text more : List ℕ) (most : ℕ) (e : StreamFault) → stream text most ≡ Bad e → stream (text ++ more) most ≡ Bad e

-- that the text ends is a fault exactly where it has to go on
abbrev pub EndsExactly : Type 0
EndsExactly = (text : List ℕ) (most n : ℕ) → (answer n (stream text most) ≡ Err (faults.Ended n)) ↔ (stream text most ≡ Short)

-- ---- bytes behind a line

-- behind this front of a stream a line comes next, for these parts of the last command or for a further command
abbrev pub StandsAtLine : ℕ → List ℕ → List Part → Facts → Type 0
StandsAtLine most front ps f = (more : List ℕ) → stream (front ++ more) most ≡ outcome (left most ps f (length front) more)

-- the line may come there, and so many bytes follow it, before these parts come next
pub record IsFollowed (most : ℕ) (ps : List Part) (f : Facts) (at : ℕ) (line : List ℕ) (n : ℕ) (rest : List Part) (g : Facts) : Type 0 where
  pub clean : IsClean line
  pub short : length line ≤ max_line_bytes
  pub goes : offered most ps f at line ≡ Goes rest n g

abbrev pub LinesFollow : Type 0
LinesFollow = (most : ℕ) (front line bytes : List ℕ) (ps rest : List Part) (f g : Facts)
    → StandsAtLine most front ps f → IsFollowed most ps f (length front) line (length bytes) rest g → StandsAtLine most (front ++ (line ++ 10 ∷ bytes)) rest g

-- bytes follow a line `data` alone
abbrev pub OnlyDataIsFollowed : Type 0
OnlyDataIsFollowed = (most : ℕ) (ps rest : List Part) (f g : Facts) (at n : ℕ) (line : List ℕ) → IsFollowed most ps f at line n rest g → 0 < n → begins (codes "data ") line ≡ true

-- other bytes of the same number behind a line change nothing
abbrev pub BytesAreFree : Type 0
BytesAreFree = (most : ℕ) (front line bytes other after : List ℕ) (ps rest : List Part) (f g : Facts)
    → StandsAtLine most front ps f → IsFollowed most ps f (length front) line (length bytes) rest g → length other ≡ length bytes
    → stream (front ++ (line ++ 10 ∷ (bytes ++ after))) most ≡ stream (front ++ (line ++ 10 ∷ (other ++ after))) most
