-- Texts that have numbers (our own).
use Rattle.std.specs.Prelude.{◌≡◌, ℕ, ◌⊎◌, List, Option, Some, None, position}
use Rattle.std.specs.Str.{bytes_eq}

abbrev pub number_of : List (List ℕ) → List ℕ → Option ℕ
number_of texts t = position (bytes_eq t) texts

-- a number stays, and a new one is the next
abbrev pub IsKept : ℕ → Option ℕ → Option ℕ → Type 0
IsKept next old new = (new ≡ old) ⊎ ((old ≡ None) × (new ≡ Some next))
