-- Numbers of 64 bits as texts of digits (our own).
use Rattle.std.specs.Prelude.{ℕ, ◌^◌, ◌&&◌, ◌==◌, Bool, not, nat_lt, nat_le, List, length, Option, Some, None, option_and_then, if◌then◌else◌}
use Rattle.osv_prim.specs.Digits.{all_digits, number}

-- one digit or more; zeros may lead them
abbrev pub is_numeral : List ℕ → Bool
is_numeral text = not (length text == 0) && all_digits text

-- a number of 64 bits
abbrev pub fits : ℕ → Option ℕ
fits n = if nat_lt n (2 ^ 64) then Some n else None

-- the number of 64 bits that a text spells
abbrev pub u64_of : List ℕ → Option ℕ
u64_of text = if is_numeral text then fits (number text) else None

-- a number that is at least the first and at most the second
abbrev pub within : ℕ → ℕ → ℕ → Option ℕ
within least most n = if nat_le least n && nat_le n most then Some n else None

-- the number that a text of at most so many digits spells, where it is in the range
abbrev pub u64_in : ℕ → ℕ → ℕ → List ℕ → Option ℕ
u64_in digits least most text = if nat_le (length text) digits then option_and_then (within least most) (u64_of text) else None
