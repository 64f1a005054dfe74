-- Chains of comparisons in a total order.
use Rattle.std.proofs.Common.{◌≡◌, Bool, true, false, Ordering, Less, Equal, Greater, refl, sym, ap, ◌∙◌}
use Rattle.std.specs.Cmp.{IsTotalOrder, upto}
use Rattle.std.specs.Ordering.{is_ge, is_gt, is_lt, ordering_reverse}
use Rattle.std.proofs.lemmas.Bool.{false≢true}

pub by_false : (b : Bool) → (b ≡ false → ⊥) → b ≡ true
by_false true h = refl
by_false false h = absurd (h refl)

pub by_true : (b : Bool) → (b ≡ true → ⊥) → b ≡ false
by_true true h = absurd (h refl)
by_true false h = refl

pub gt_turned : (r s : Ordering) → r ≡ ordering_reverse s → is_gt r ≡ is_lt s
gt_turned r Less e = ap is_gt e
gt_turned r Equal e = ap is_gt e
gt_turned r Greater e = ap is_gt e

ge_turned : (r s : Ordering) → r ≡ ordering_reverse s → is_gt s ≡ false → is_ge r ≡ true
ge_turned r Less e h = ap is_ge e
ge_turned r Equal e h = ap is_ge e
ge_turned r Greater e h = absurd (false≢true (sym h))

not_gt_turned : (r s : Ordering) → r ≡ ordering_reverse s → is_ge s ≡ true → is_gt r ≡ false
not_gt_turned r Less e h = absurd (false≢true h)
not_gt_turned r Equal e h = ap is_gt e
not_gt_turned r Greater e h = ap is_gt e

pub ge_from_gt : (r : Ordering) → is_gt r ≡ true → is_ge r ≡ true
ge_from_gt Less h = absurd (false≢true h)
ge_from_gt Equal h = refl
ge_from_gt Greater h = refl

module _ {K : Type 0} {R : K → K → Ordering} (t : IsTotalOrder R) where
  pub ge_le : (x y z : K) → is_ge (R x y) ≡ true → is_gt (R z y) ≡ false → is_ge (R x z) ≡ true
  ge_le x y z p q = ge_turned (R x z) (R z x) (t.antisymm x z) (upto t z y x q (not_gt_turned (R y x) (R x y) (t.antisymm y x) p))

  pub gt_le : (x y z : K) → is_gt (R x y) ≡ true → is_gt (R z y) ≡ false → is_gt (R x z) ≡ true
  gt_le x y z p q = by_false (is_gt (R x z)) (λ n. false≢true (sym (upto t x z y n q) ∙ p))

  pub ge_lt : (x y z : K) → is_ge (R x y) ≡ true → is_lt (R z y) ≡ true → is_gt (R x z) ≡ true
  ge_lt x y z p q =
      by_false (is_gt (R x z)) (λ n.
      false≢true (sym (upto t y x z (not_gt_turned (R y x) (R x y) (t.antisymm y x) p) n) ∙ (gt_turned (R y z) (R z y) (t.antisymm y z) ∙ q)))

  pub lt_le : (x y z : K) → is_lt (R x y) ≡ true → is_gt (R y z) ≡ false → is_lt (R x z) ≡ true
  lt_le x y z p q =
      by_false (is_lt (R x z)) (λ n.
      false≢true (sym (upto t y z x q (gt_turned (R z x) (R x z) (t.antisymm z x) ∙ n)) ∙ (gt_turned (R y x) (R x y) (t.antisymm y x) ∙ p)))

  pub not_gt_from_gt : (x y : K) → is_gt (R x y) ≡ true → is_gt (R y x) ≡ false
  not_gt_from_gt x y p = not_gt_turned (R y x) (R x y) (t.antisymm y x) (ge_from_gt (R x y) p)
