-- The indexes that are picked of entries whose indexes ascend.
use Rattle.std.proofs.Common.{◌≡◌, ℕ, ◌+◌, ◌<◌, ◌≤◌, inl, inr, Bool, true, false, cond, ◌&&◌, ◌||◌, eqb, leb, List, [], ◌∷◌, length, suc, refl, sym, ap, ◌∙◌, arith}
use Rattle.std.specs.List.{list_any}
use Rattle.std.specs.List.Sorted.{IsStrictlySortedBy}
use Rattle.std.specs.Ordering.{nat_cmp}
use Rattle.std.proofs.lemmas.Bool.{and_parts, cases_eq, eqb-true, ne_eqb, eq-eqb, or_cases, false≢true, le-leb, leb-true}
use Rattle.package_index.proofs.Rising.{has, less, AllAbove}
use Rattle.set_hits.specs.Places as places
use Rattle.repo_index.specs.Index.{Kept, has_at, picked, AscendFrom}

above-step : (a n next : ℕ) (k : Kept) (first later : List ℕ) (b : Bool) → (leb next k.0 && places.has k.1 n) ≡ b → a < next → AllAbove a later → (a < k.0 + 1 → AllAbove a first) → AllAbove a (cond b (k.0 ∷ first) later)
above-step a n next k first later true is lt all up =
    let low : next ≤ k.0 = leb-true next k.0 (and_parts (leb next k.0) (places.has k.1 n) is).0 in
    (less a k.0 (omega (arith, lt, low)), up (omega (arith, lt, low)))
above-step a n next k first later false is lt all up = all

picked-above : (n next : ℕ) (ks : List Kept) (a : ℕ) → a < next → AllAbove a (picked n next ks)
picked-above n next [] a lt = tt
picked-above n next (k ∷ ks) a lt =
    above-step a n next k (picked n (k.0 + 1) ks) (picked n next ks) (leb next k.0 && places.has k.1 n) refl lt (picked-above n next ks a lt) (picked-above n (k.0 + 1) ks a)

rising-step : (x : ℕ) (b : Bool) (first later : List ℕ) → AllAbove x first → IsStrictlySortedBy nat_cmp first → IsStrictlySortedBy nat_cmp later → IsStrictlySortedBy nat_cmp (cond b (x ∷ first) later)
unfolding IsStrictlySortedBy
rising-step x true first later all up down = (all, up)
rising-step x false first later all up down = down

pub picked-rising : (n next : ℕ) (ks : List Kept) → IsStrictlySortedBy nat_cmp (picked n next ks)
unfolding IsStrictlySortedBy
picked-rising n next [] = tt
picked-rising n next (k ∷ ks) =
    rising-step k.0 (leb next k.0 && places.has k.1 n) (picked n (k.0 + 1) ks) (picked n next ks) (picked-above n (k.0 + 1) ks k.0 (omega arith)) (picked-rising n (k.0 + 1) ks) (picked-rising n next ks)

fewer-step : (x count : ℕ) (b : Bool) (first later : List ℕ) → length first ≤ count → length later ≤ count → length (cond b (x ∷ first) later) ≤ suc count
fewer-step x count true first later le less = omega (arith, le)
fewer-step x count false first later le less = omega (arith, less)

pub picked-fewer : (n next : ℕ) (ks : List Kept) → length (picked n next ks) ≤ length ks
picked-fewer n next [] = omega arith
picked-fewer n next (k ∷ ks) =
    fewer-step k.0 (length ks) (leb next k.0 && places.has k.1 n) (picked n (k.0 + 1) ks) (picked n next ks) (picked-fewer n (k.0 + 1) ks) (picked-fewer n next ks)

-- ---- their members

any-low : (n i low : ℕ) (ks : List Kept) → AscendFrom low ks → list_any (has_at n i) ks ≡ true → low ≤ i
any-low n i low [] up h = absurd (false≢true h)
any-low n i low (k ∷ ks) up h =
    elim (or_cases (has_at n i k) (list_any (has_at n i) ks) h) [
      | inl here ↦ omega (arith, up.0, eqb-true k.0 i (and_parts (eqb k.0 i) (places.has k.1 n) here).0)
      | inr later ↦ omega (arith, up.0, any-low n i k.0 ks up.1 later)
    ]

both : (x y any : Bool) → (any ≡ true → x ≡ y) → (x && any) ≡ (y && any)
both x y true f = ap (λ (b : Bool). b && true) (f refl)
both true true false f = refl
both true false false f = refl
both false true false f = refl
both false false false f = refl

passed : (l a any : Bool) → (a ≡ true → l ≡ false) → (l && any) ≡ (l && (a || any))
passed l true any f = ap (λ (b : Bool). b && any) (f refl) ∙ sym (ap (λ (b : Bool). b && true) (f refl))
passed l false any f = refl

and-no : (b : Bool) → (b && false) ≡ false
and-no true = refl
and-no false = refl

module _ (n next : ℕ) (k : Kept) (ks : List Kept) (i : ℕ) where
  abbrev any : Bool
  any = list_any (has_at n i) ks

  above : AscendFrom k.0 ks → next ≤ k.0 → (k.0 ≡ i → ⊥) → any ≡ true → leb (k.0 + 1) i ≡ leb next i
  above up le other h =
      let low : k.0 ≤ i = any-low n i k.0 ks up h in
      le-leb (k.0 + 1) i (omega (arith, low, other)) ∙ sym (le-leb next i (omega (arith, le, low)))

  chosen : AscendFrom k.0 ks → next ≤ k.0 → (first : List ℕ) → has first i ≡ (leb (k.0 + 1) i && any) → (eqb k.0 i || has first i) ≡ (leb next i && ((eqb k.0 i && true) || any))
  chosen up le first later =
      elim (cases_eq k.0 i) [
        | inl same ↦
            let here : eqb k.0 i ≡ true = eq-eqb k.0 i same in
            let from : leb next i ≡ true = le-leb next i (omega (arith, le, same)) in
            ap (λ (b : Bool). b || has first i) here
            ∙ sym (ap (λ (b : Bool). leb next i && ((b && true) || any)) here ∙ ap (λ (b : Bool). b && true) from)
        | inr other ↦
            let no : eqb k.0 i ≡ false = ne_eqb k.0 i other in
            ap (λ (b : Bool). b || has first i) no ∙ later ∙ both (leb (k.0 + 1) i) (leb next i) any (above up le other)
            ∙ sym (ap (λ (b : Bool). leb next i && ((b && true) || any)) no)
      ]

  step : AscendFrom k.0 ks → (first rest : List ℕ) → has first i ≡ (leb (k.0 + 1) i && any) → has rest i ≡ (leb next i && any) → (b : Bool) → leb next k.0 ≡ b → (h : Bool) → places.has k.1 n ≡ h
      → has (cond (b && h) (k.0 ∷ first) rest) i ≡ (leb next i && ((eqb k.0 i && h) || any))
  step up first rest later other true le true h = chosen up (leb-true next k.0 le) first later
  step up first rest later other true le false h = other ∙ passed (leb next i) (eqb k.0 i && false) any (λ t. absurd (false≢true (sym (and-no (eqb k.0 i)) ∙ t)))
  step up first rest later other false le h is =
      other
      ∙ passed (leb next i) (eqb k.0 i && h) any (λ t. let same : k.0 ≡ i = eqb-true k.0 i (and_parts (eqb k.0 i) h t).0 in sym (ap (λ (j : ℕ). leb next j) same) ∙ le)

pub picked-members : (n next low : ℕ) (ks : List Kept) → AscendFrom low ks → (i : ℕ) → has (picked n next ks) i ≡ (leb next i && list_any (has_at n i) ks)
picked-members n next low [] up i = sym (and-no (leb next i))
picked-members n next low (k ∷ ks) up i =
    step n next k ks i up.1 (picked n (k.0 + 1) ks) (picked n next ks) (picked-members n (k.0 + 1) k.0 ks up.1 i) (picked-members n next k.0 ks up.1 i) (leb next k.0) refl (places.has k.1 n) refl
