-- The index of the first byte that passes a test, as a search finds it.
use Rattle.std.proofs.Common.{◌≡◌, ℕ, ◌<◌, Bool, true, false, ltb, List, length, Option, Some, None, refl, sym, ap, arith}
use Rattle.std.specs.List.{position, position_or_len}
use Rattle.std.proofs.lemmas.List.Sums.{position_or_len_is}
use Rattle.std.proofs.lemmas.Bool.{false_from_ne_true}
use Rattle.std.proofs.lemmas.Bool.Decides.{nat_tests}
use Rattle.memchr.specs.Find.{IsFirstByte}

pub is_position : (p : ℕ → Bool) (xs : List ℕ) (r : Option ℕ) → IsFirstByte p xs r → r ≡ position p xs
is_position p xs None h =
    let e : position_or_len p xs ≡ length xs = position_or_len_is p xs (length xs) 0 (omega arith) (λ k lt. false_from_ne_true _ (h k (omega arith) lt)) (λ lt. absurd (omega arith)) in
    let no : ltb (position_or_len p xs) (length xs) ≡ false = grind (arith, nat_tests) in
    rw no refl
is_position p xs (Some k) h =
    let e : position_or_len p xs ≡ k = position_or_len_is p xs k 0 (omega (arith, h.0.high)) (λ j lt. false_from_ne_true _ (h.0.before j (omega arith) lt)) (λ lt. h.1) in
    let lt : k < length xs = h.0.high in
    let yes : ltb (position_or_len p xs) (length xs) ≡ true = grind (arith, nat_tests) in
    rw yes (ap (λ (n : ℕ). Some n) (sym e))
