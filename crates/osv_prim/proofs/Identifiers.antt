-- How the order of two texts follows from their first identifiers.
use Rattle.std.proofs.Common.{◌≡◌, ◌≢◌, ℕ, ◌<◌, Bool, List, [], ◌∷◌, length, map, Option, Some, None, refl, sym, ap, ◌∙◌, arith, inl, inr}
use Rattle.std.proofs.lemmas.Bool.{cases_Bool}
use Rattle.std.specs.List.{onto_first, slice_split}
use Rattle.std.specs.Ordering.{ordering_then}
use Rattle.std.specs.declared.cmp.Ordering.{Ordering}
use Rattle.std.specs.declared.cmp.Ordering.TheVariants.{Less, Equal, Greater}
use Rattle.osv_prim.specs.Digits.{IdentifierWeight, first_part, identifier_cmp, identifier_weight, identifier_weights, identifiers_cmp, is_dot, next_part}

abbrev split_of : Option (List ℕ) → List (List ℕ)
split_of None = []
split_of (Some t) = slice_split is_dot t

split_by : (t : List ℕ) → slice_split is_dot t ≡ first_part t ∷ split_of (next_part t)
unfolding first_part next_part
split_by [] = refl
split_by (c ∷ cs) = elim (cases_Bool (is_dot c)) [
  | inl dot ↦ rw dot refl
  | inr other ↦ let r = split_by cs in rw other (ap (onto_first c) r)
]

pub then_other : (r s : Ordering) → r ≢ Equal → ordering_then r s ≡ r
then_other Less s ne = refl
then_other Equal s ne = absurd (ne refl)
then_other Greater s ne = refl

module _ (below : Bool) where
  abbrev pub weights_of : Option (List ℕ) → List IdentifierWeight
  weights_of None = []
  weights_of (Some t) = identifier_weights below t

  mapped : (o : Option (List ℕ)) → map (identifier_weight below) (split_of o) ≡ weights_of o
  mapped None = refl
  mapped (Some t) = refl

  weights_by : (t : List ℕ) → identifier_weights below t ≡ identifier_weight below (first_part t) ∷ weights_of (next_part t)
  weights_by t = ap (map (identifier_weight below)) (split_by t) ∙ ap (λ (ws : List IdentifierWeight). identifier_weight below (first_part t) ∷ ws) (mapped (next_part t))

  by_first : (a b : List ℕ) → identifiers_cmp (identifier_weights below a) (identifier_weights below b) ≡ ordering_then (identifier_cmp (identifier_weight below (first_part a)) (identifier_weight below (first_part b))) (identifiers_cmp (weights_of (next_part a)) (weights_of (next_part b)))
  by_first a b =
      ap (λ (ws : List IdentifierWeight). identifiers_cmp ws (identifier_weights below b)) (weights_by a)
      ∙ ap (identifiers_cmp (identifier_weight below (first_part a) ∷ weights_of (next_part a))) (weights_by b)

  weighed : (a b fa fb : List ℕ) (r : Ordering) → fa ≡ first_part a → fb ≡ first_part b → r ≡ identifier_cmp (identifier_weight below fa) (identifier_weight below fb) → r ≡ identifier_cmp (identifier_weight below (first_part a)) (identifier_weight below (first_part b))
  weighed a b fa fb r p q e = e ∙ ap (λ (f : List ℕ). identifier_cmp (identifier_weight below f) (identifier_weight below fb)) p ∙ ap (λ (f : List ℕ). identifier_cmp (identifier_weight below (first_part a)) (identifier_weight below f)) q

  pub decides : (a b fa fb : List ℕ) (r : Ordering) → fa ≡ first_part a → fb ≡ first_part b → r ≡ identifier_cmp (identifier_weight below fa) (identifier_weight below fb) → r ≢ Equal
      → r ≡ identifiers_cmp (identifier_weights below a) (identifier_weights below b)
  decides a b fa fb r p q e ne =
      let w = weighed a b fa fb r p q e in
      w ∙ sym (then_other _ (identifiers_cmp (weights_of (next_part a)) (weights_of (next_part b))) (λ t. ne (w ∙ t))) ∙ sym (by_first a b)

  pub tied : (a b fa fb : List ℕ) (r : Ordering) (x y : Option (List ℕ)) → fa ≡ first_part a → fb ≡ first_part b → r ≡ identifier_cmp (identifier_weight below fa) (identifier_weight below fb) → r ≡ Equal
      → x ≡ next_part a → y ≡ next_part b → identifiers_cmp (weights_of x) (weights_of y) ≡ identifiers_cmp (identifier_weights below a) (identifier_weights below b)
  tied a b fa fb r x y p q e tie ex ey =
      let w = weighed a b fa fb r p q e in
      ap (λ (o : Option (List ℕ)). identifiers_cmp (weights_of o) (weights_of y)) ex ∙ ap (λ (o : Option (List ℕ)). identifiers_cmp (weights_of (next_part a)) (weights_of o)) ey
      ∙ ap (λ (o : Ordering). ordering_then o (identifiers_cmp (weights_of (next_part a)) (weights_of (next_part b)))) (sym tie ∙ w) ∙ sym (by_first a b)

  -- a text has an identifier, so more of them are above none
  pub more : (t : List ℕ) → identifiers_cmp (identifier_weights below t) [] ≡ Greater
  more t = ap (λ (ws : List IdentifierWeight). identifiers_cmp ws []) (weights_by t)

  pub fewer : (t : List ℕ) → identifiers_cmp [] (identifier_weights below t) ≡ Less
  fewer t = ap (identifiers_cmp []) (weights_by t)

pub next_shorter : (t r : List ℕ) → next_part t ≡ Some r → length r < length t
unfolding next_part
next_shorter [] r e = absurd cc
next_shorter (c ∷ cs) r e = elim (cases_Bool (is_dot c)) [
  | inl dot ↦ let same : cs ≡ r = some_is cs r (rw dot at e) in rw (sym same) (omega arith)
  | inr other ↦ let s = next_shorter cs r (rw other at e) in omega arith
]
  where
    some_is : (x y : List ℕ) → Some x ≡ Some y → x ≡ y
    some_is x y e = cc
