-- The places at which a text is cut.
use Rattle.std.proofs.Common.{◌≡◌, ℕ, ◌<◌, ◌≤◌, Bool, true, false, cond, List, [], ◌∷◌, length, get_or, Some, None, ap, ◌∙◌, arith, inl, inr, unwrap_or}
use Rattle.std.proofs.lemmas.Bool.{cases_Bool, cases_lt}
use Rattle.std.proofs.lemmas.Bool.Decides.{nat_tests}
use Rattle.std.proofs.lemmas.List.Sums.{passes_at_first}
use Rattle.std.specs.List.{position, position_or_len}
use Rattle.std.specs.Prelude.{nat_lt}
use Rattle.std.proofs.lemmas.Str.{IsCharBoundary-after_ascii}
use Rattle.std.specs.Str.{IsCharBoundary, IsUtf8}
use Rattle.order_semver.specs.Reading.{is_mark}

place_le : (p : ℕ → Bool) (xs : List ℕ) → position_or_len p xs ≤ length xs
place_le p [] = omega arith
place_le p (x ∷ xs) = elim (cases_Bool (p x)) [
  | inl passes ↦ rw passes (omega arith)
  | inr fails ↦ let r = place_le p xs in rw fails (omega arith)
]

-- the place of the first, or the length
pub place_or_len : (p : ℕ → Bool) (xs : List ℕ) → unwrap_or (position p xs) (length xs) ≡ position_or_len p xs
place_or_len p xs = elim (cases_lt (position_or_len p xs) (length xs)) [
  | inl lt ↦ let e : nat_lt (position_or_len p xs) (length xs) ≡ true = grind (arith, nat_tests) in ap (λ (b : Bool). unwrap_or (cond b (Some (position_or_len p xs)) None) (length xs)) e
  | inr le ↦
      let e : nat_lt (position_or_len p xs) (length xs) ≡ false = grind (arith, nat_tests) in
      let same : length xs ≡ position_or_len p xs = omega (arith, place_le p xs) in
      ap (λ (b : Bool). unwrap_or (cond b (Some (position_or_len p xs)) None) (length xs)) e ∙ same
]

-- a mark is an ASCII byte
mark_is : (c : ℕ) → is_mark c ≡ true → c < 128
mark_is c e = grind (arith, nat_tests)

at_mark : (xs : List ℕ) (i : ℕ) → i ≡ position_or_len is_mark xs → i < length xs → get_or xs i 0 < 128
at_mark xs i e lt = rw e (mark_is _ (passes_at_first is_mark xs 0 (rw e at lt)))

pub mark_boundary : (xs : List ℕ) (i : ℕ) → i ≡ position_or_len is_mark xs → IsCharBoundary xs i
mark_boundary xs i e = (rw e (place_le is_mark xs), λ lt wide. absurd (omega (arith, at_mark xs i e lt)))

-- behind a leading `v` a text may be cut
pub v_boundary : (t : List ℕ) → IsUtf8 t → get_or t 0 0 ≡ 118 → IsCharBoundary t 1
v_boundary [] u e = absurd (omega (arith, e))
v_boundary (c ∷ cs) u e = IsCharBoundary-after_ascii (c ∷ cs) 0 u (omega arith) (omega (arith, e))
