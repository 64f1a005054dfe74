-- The first turn of a part, and what stands behind it.
use Rattle.std.specs.Prelude.{ℕ, List, [], ◌∷◌, if◌then◌else◌}
use Rattle.std.specs.Char.{is_ascii_digit}
use Rattle.osv_prim.specs.Digits.{behind_digits, digit_front, number}
use Rattle.order_debian.specs.Turns.{Weight, end_rank, rank, ranks}

-- the longest front without digits, and what stands behind it
unfoldable pub front : List ℕ → List ℕ
front [] = []
front (c ∷ cs) = if is_ascii_digit c then [] else c ∷ front cs

unfoldable pub behind_front : List ℕ → List ℕ
behind_front [] = []
behind_front (c ∷ cs) = if is_ascii_digit c then c ∷ cs else behind_front cs

-- what the first turn of a part weighs, and what stands behind that turn
abbrev pub first_weight : List ℕ → Weight
first_weight part = (ranks (front part), number (digit_front (behind_front part)))

abbrev pub later : List ℕ → List ℕ
later part = behind_digits (behind_front part)

-- the rank of a front's first character, or of its end
abbrev pub first_rank : List ℕ → ℕ
first_rank [] = end_rank
first_rank (c ∷ cs) = rank c
