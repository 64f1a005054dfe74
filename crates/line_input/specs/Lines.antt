-- An input by lines (our own).
use Rattle.std.specs.Prelude.{◌≡◌, ◌⊎◌, ◌<◌, ◌≤◌, get_or, ℕ, zero, suc, Bool, true, false, List, [], ◌∷◌, filter, ◌==◌}
use Rattle.std.specs.List.{after_first, slice_split, enumerate_from}

-- the byte LF
abbrev pub is_line_end : ℕ → Bool
is_line_end b = b == 10

-- what stands between the line ends; what follows the last one is a line too, mostly an empty one
abbrev pub lines : List ℕ → List (List ℕ)
lines input = slice_split is_line_end input

abbrev pub has_bytes : List ℕ → Bool
has_bytes [] = false
has_bytes (c ∷ cs) = true

-- the lines that are not empty, each with its number, where the first line has number n
abbrev pub numbered : ℕ → List ℕ → List (ℕ × List ℕ)
numbered n input = filter (λ p. has_bytes p.1) (enumerate_from n (lines input))

-- what stands behind the first n line ends, or nothing where they are fewer
abbrev pub behind : ℕ → List ℕ → List ℕ
behind zero input = input
behind (suc n) input = after_first is_line_end (behind n input)

-- the first line of a text, and the text after it
abbrev pub CutsLine : List ℕ → List ℕ → List ℕ → Type 0
CutsLine text line after = (lines text ≡ line ∷ lines after) ⊎ ((lines text ≡ line ∷ []) × (after ≡ []))

-- no line end stands before that place
abbrev pub NoneBefore : List ℕ → ℕ → Type 0
NoneBefore text n = (k : ℕ) → 0 ≤ k → k < n → (get_or text k 0 == 10) ≡ true → ⊥
