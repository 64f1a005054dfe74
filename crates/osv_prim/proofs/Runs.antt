-- The digits that lead a text.
use Rattle.std.proofs.Common.{◌≡◌, ℕ, suc, ◌-◌, ◌≤◌, true, List, [], ◌∷◌, length, take, refl, ap, arith, inl, inr}
use Rattle.std.proofs.lemmas.Bool.{cases_Bool}
use Rattle.std.specs.Char.{is_ascii_digit}
use Rattle.osv_prim.specs.Digits.{all_digits, behind_digits, digit_front}

pub behind_shorter : (cs : List ℕ) → length (behind_digits cs) ≤ length cs
unfolding behind_digits
behind_shorter [] = omega arith
behind_shorter (c ∷ cs) = elim (cases_Bool (is_ascii_digit c)) [
  | inl digit ↦ let r = behind_shorter cs in rw digit (omega arith)
  | inr other ↦ rw other (omega arith)
]

pub front_cut : (cs : List ℕ) → take (length cs - length (behind_digits cs)) cs ≡ digit_front cs
unfolding digit_front behind_digits
front_cut [] = refl
front_cut (c ∷ cs) = elim (cases_Bool (is_ascii_digit c)) [
  | inr other ↦ let none : length (c ∷ cs) - length (c ∷ cs) ≡ 0 = omega arith in rw (other, none) refl
  | inl digit ↦
      let le = behind_shorter cs in
      let one : length (c ∷ cs) - length (behind_digits cs) ≡ suc (length cs - length (behind_digits cs)) = omega arith in
      rw (digit, one) (ap (λ (x : List ℕ). c ∷ x) (front_cut cs))
]

pub front_numeric : (cs : List ℕ) → all_digits (digit_front cs) ≡ true
unfolding digit_front
front_numeric [] = refl
front_numeric (c ∷ cs) = elim (cases_Bool (is_ascii_digit c)) [
  | inl digit ↦ rw (digit, digit) (front_numeric cs)
  | inr other ↦ rw other refl
]
