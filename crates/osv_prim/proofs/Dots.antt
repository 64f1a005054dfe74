-- The first dot of a text.
use Rattle.std.proofs.Common.{◌≡◌, ℕ, suc, ◌+◌, ◌-◌, ◌<◌, ◌≤◌, true, false, List, [], ◌∷◌, length, take, drop, Option, Some, None, refl, sym, ap, subst, ◌∙◌, arith, inl, inr}
use Rattle.std.proofs.lemmas.Bool.{cases_Bool, cases_lt}
use Rattle.std.proofs.lemmas.List.{take_all, length-drop}
use Rattle.std.proofs.lemmas.Bool.Decides.{nat_tests}
use Rattle.std.specs.List.{position, position_or_len}
use Rattle.std.specs.Prelude.{nat_lt}
use Rattle.osv_prim.specs.Digits.{first_part, is_dot, next_part}

one_more : (n : ℕ) → 1 + n ≡ suc n
one_more n = omega arith

-- what stands before the first dot, and what behind it
before_dot : (t : List ℕ) → take (position_or_len is_dot t) t ≡ first_part t
unfolding first_part
before_dot [] = refl
before_dot (c ∷ cs) = elim (cases_Bool (is_dot c)) [
  | inl dot ↦ rw dot refl
  | inr other ↦ rw (other, one_more (position_or_len is_dot cs)) (ap (λ (x : List ℕ). c ∷ x) (before_dot cs))
]

behind_dot : (t : List ℕ) → position_or_len is_dot t < length t → Some (drop (position_or_len is_dot t + 1) t) ≡ next_part t
unfolding next_part
behind_dot [] lt = absurd (omega arith)
behind_dot (c ∷ cs) lt = elim (cases_Bool (is_dot c)) [
  | inl dot ↦ rw dot refl
  | inr other ↦
      let below : position_or_len is_dot cs < length cs = omega (arith, rw other at lt) in
      let next : 1 + position_or_len is_dot cs + 1 ≡ suc (position_or_len is_dot cs + 1) = omega arith in
      rw (other, next) (behind_dot cs below)
]

no_dot : (t : List ℕ) → length t ≤ position_or_len is_dot t → None ≡ next_part t
unfolding next_part
no_dot [] le = refl
no_dot (c ∷ cs) le = elim (cases_Bool (is_dot c)) [
  | inl dot ↦ absurd (omega (arith, rw dot at le))
  | inr other ↦ rw other (no_dot cs (omega (arith, rw other at le)))
]

abbrev Cuts : List ℕ → Option ℕ → Type 0
Cuts t None = (t ≡ first_part t) × (None ≡ next_part t)
Cuts t (Some i) = (take i t ≡ first_part t) × (Some (drop (i + 1) t) ≡ next_part t)

pub cuts : (t : List ℕ) → Cuts t (position is_dot t)
cuts t = elim (cases_lt (position_or_len is_dot t) (length t)) [
  | inl lt ↦ let e : nat_lt (position_or_len is_dot t) (length t) ≡ true = grind (arith, nat_tests) in rw e (before_dot t, behind_dot t lt)
  | inr le ↦
      let e : nat_lt (position_or_len is_dot t) (length t) ≡ false = grind (arith, nat_tests) in
      rw e (sym (take_all (position_or_len is_dot t) t le) ∙ before_dot t, no_dot t le)
]

pub cuts_none : (t : List ℕ) (o : Option ℕ) → o ≡ position is_dot t → o ≡ None → (t ≡ first_part t) × (None ≡ next_part t)
cuts_none t o p n = subst (Cuts t) (sym p ∙ n) (cuts t)

pub cuts_some : (t : List ℕ) (o : Option ℕ) (i : ℕ) → o ≡ position is_dot t → o ≡ Some i → (take i t ≡ first_part t) × (Some (drop (i + 1) t) ≡ next_part t)
cuts_some t o i p n = subst (Cuts t) (sym p ∙ n) (cuts t)

pub rest_is : (t : List ℕ) (i : ℕ) → take (length t - i) (drop i t) ≡ drop i t
rest_is t i = take_all (length t - i) (drop i t) (omega (arith, length-drop i t))
