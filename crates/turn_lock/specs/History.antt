-- How a history grows, and what of it is whose (our own).
use Rattle.std.specs.Prelude.{◌≡◌, ◌⊎◌, ℕ, suc, ◌+◌, List, ◌++◌, All, length, filter, ◌==◌, nat_lt, cond, min}

-- ys is xs, and then entries that are all by this caller
abbrev pub GrownBy : {E : Type 0} → (E → ℕ) → ℕ → List E → List E → Type 0
GrownBy {E} owner by xs ys = (new : List E) × (xs ++ new ≡ ys) × All (λ e. owner e ≡ by) new

-- at most one caller number was given
abbrev pub GivesAtMostOne : ℕ → ℕ → Type 0
GivesAtMostOne n m = (m ≡ n) ⊎ (m ≡ suc n)

-- the entries by the caller n, in their order
abbrev pub entries_by : {E : Type 0} → (E → ℕ) → ℕ → List E → List E
entries_by owner n xs = filter (λ e. owner e == n) xs

-- the longer of two lists, the first where neither is
abbrev pub longer : {E : Type 0} → List E → List E → List E
longer xs ys = cond (nat_lt (length xs) (length ys)) ys xs

-- one more, at most 2^64 - 1
abbrev pub saturating_next : ℕ → ℕ
saturating_next n = min (n + 1) 18446744073709551615
