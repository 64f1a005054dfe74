-- A part of a version as Debian orders it: by turns a front without digits and a run of digits (Debian
-- Policy, 5.6.12).
use Rattle.std.specs.Prelude.{ℕ, ◌+◌, Bool, true, false, List, [], ◌∷◌, ◌++◌, map, ◌==◌, if◌then◌else◌}
use Rattle.std.specs.Char.{is_ascii_alphabetic, is_ascii_digit}
use Rattle.std.specs.Ordering.{nat_cmp, on, then_cmp}
use Rattle.std.specs.Cmp.Lexicographic.{slice_cmp}
use Rattle.std.specs.declared.cmp.Ordering.{Ordering}
use Rattle.osv_prim.specs.Digits.{filled_cmp, number}

-- the rank of the end of a front
abbrev pub end_rank : ℕ
end_rank = 1

-- `~` is below the end, the end below letters, and letters below the other characters
abbrev pub rank : ℕ → ℕ
rank c = if c == 126 then 0 else if is_ascii_alphabetic c then 2 + c else 256 + c

-- the ranks of a front's characters, and that of its end
abbrev pub ranks : List ℕ → List ℕ
ranks front = map rank front ++ end_rank ∷ []

-- a front without digits, and the run of digits behind it
abbrev pub Turn : Type 0
Turn = List ℕ × List ℕ

abbrev pub is_empty : List ℕ → Bool
is_empty [] = true
is_empty (c ∷ cs) = false

-- a character that is no digit belongs to the first front
abbrev pub character_before : ℕ → List Turn → List Turn
character_before c [] = (c ∷ [], []) ∷ []
character_before c (t ∷ ts) = (c ∷ t.0, t.1) ∷ ts

-- a digit belongs to the first run where nothing stands before that, and else is a turn of its own
abbrev pub digit_before : ℕ → List Turn → List Turn
digit_before d [] = ([], d ∷ []) ∷ []
digit_before d (t ∷ ts) = if is_empty t.0 then ([], d ∷ t.1) ∷ ts else ([], d ∷ []) ∷ t ∷ ts

-- a part from the left: the longest front without digits, the longest front of digits, and so on
unfoldable pub turns : List ℕ → List Turn
turns [] = []
turns (c ∷ cs) = if is_ascii_digit c then digit_before c (turns cs) else character_before c (turns cs)

-- what a turn counts for: the ranks of its front, and the number that its digits spell
abbrev pub Weight : Type 0
Weight = List ℕ × ℕ

abbrev pub weight : Turn → Weight
weight t = (ranks t.0, number t.1)

abbrev pub weights : List ℕ → List Weight
weights part = map weight (turns part)

-- an empty front, and 0
abbrev pub no_weight : Weight
no_weight = (end_rank ∷ [], 0)

abbrev pub weight_cmp : Weight → Weight → Ordering
weight_cmp = then_cmp (on (λ (w : Weight). w.0) (slice_cmp nat_cmp)) (on (λ (w : Weight). w.1) nat_cmp)

-- the order of two parts
abbrev pub weights_cmp : List Weight → List Weight → Ordering
weights_cmp = filled_cmp weight_cmp no_weight
