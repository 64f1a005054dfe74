-- A range among the versions of one order is the same range among versions of all orders.
use Rattle.std.proofs.Common.{◌≡◌, ℕ, Bool, true, false, cond, ◌&&◌, ◌||◌, not, List, [], ◌∷◌, map, Option, Some, None, Ordering, is_ge, is_gt, is_lt, refl, sym, ap, ◌∙◌}
use Rattle.std.specs.List.{list_any}
use Rattle.std.specs.Ordering.{nat_cmp, ordering_then}
use Rattle.osv_prim.specs.Ranges.{kind_rank, is_limit, bound_cmp, event_cmp, placed, sorted, against, flag_after, flag_from, is_within_limits, in_range}
use Rattle.osv_prim.specs.declared.bound.Bound.{Bound}
use Rattle.osv_prim.specs.declared.bound.Bound.TheVariants.{Lowest, At, Endless}
use Rattle.osv_prim.specs.declared.event.EventKind.{EventKind}
use Rattle.osv_prim.specs.declared.event.EventKind.TheVariants.{Introduced, Fixed, LastAffected, Limit}

module _ {K V : Type 0} (kcmp : K → K → Ordering) (vcmp : V → V → Ordering) (into : K → V) (same : (a b : K) → vcmp (into a) (into b) ≡ kcmp a b) where
  abbrev pub bound_as : Bound K → Bound V
  bound_as Lowest = Lowest
  bound_as (At k) = At (into k)
  bound_as Endless = Endless

  abbrev pub event_as : EventKind × Bound K → EventKind × Bound V
  event_as e = (e.0, bound_as e.1)

  bounds-same : (a b : Bound K) → bound_cmp vcmp (bound_as a) (bound_as b) ≡ bound_cmp kcmp a b
  bounds-same Lowest Lowest = refl
  bounds-same Lowest (At u) = refl
  bounds-same Lowest Endless = refl
  bounds-same (At t) Lowest = refl
  bounds-same (At t) (At u) = same t u
  bounds-same (At t) Endless = refl
  bounds-same Endless Lowest = refl
  bounds-same Endless (At u) = refl
  bounds-same Endless Endless = refl

  against-same : (k : K) (b : Bound K) → against vcmp (into k) (bound_as b) ≡ against kcmp k b
  against-same k b = bounds-same (At k) b

  events-same : (e f : EventKind × Bound K) → event_cmp vcmp (event_as e) (event_as f) ≡ event_cmp kcmp e f
  events-same e f = ap (λ (o : Ordering). ordering_then o (nat_cmp (kind_rank e.0) (kind_rank f.0))) (bounds-same e.1 f.1)

  -- ---- events in order

  one-placed : (b : Bool) (x : EventKind × Bound K) (lower upper : List (EventKind × Bound K)) (low : List (EventKind × Bound V)) → low ≡ map event_as lower
      → cond b (event_as x ∷ low) (map event_as upper) ≡ map event_as (cond b (x ∷ lower) upper)
  one-placed true x lower upper low is = ap (λ (ys : List (EventKind × Bound V)). event_as x ∷ ys) is
  one-placed false x lower upper low is = refl

  placed-same : (e : EventKind × Bound K) (xs : List (EventKind × Bound K)) → placed vcmp (event_as e) (map event_as xs) ≡ map event_as (placed kcmp e xs)
  placed-same e [] = refl
  placed-same e (x ∷ xs) =
      ap (λ (o : Ordering). cond (is_lt o) (event_as x ∷ placed vcmp (event_as e) (map event_as xs)) (map event_as (e ∷ x ∷ xs))) (events-same x e)
      ∙ one-placed (is_lt (event_cmp kcmp x e)) x (placed kcmp e xs) (e ∷ x ∷ xs) (placed vcmp (event_as e) (map event_as xs)) (placed-same e xs)

  sorted-same : (es : List (EventKind × Bound K)) → sorted vcmp (map event_as es) ≡ map event_as (sorted kcmp es)
  sorted-same [] = refl
  sorted-same (e ∷ es) = ap (placed vcmp (event_as e)) (sorted-same es) ∙ placed-same e (sorted kcmp es)

  -- ---- the flag

  after-same : (k : K) (flag : Bool) (kind : EventKind) (b : Bound K) → flag_after vcmp (into k) flag kind (bound_as b) ≡ flag_after kcmp k flag kind b
  after-same k flag Introduced b = ap (λ (o : Ordering). cond (is_ge o) true flag) (against-same k b)
  after-same k flag Fixed b = ap (λ (o : Ordering). cond (is_ge o) false flag) (against-same k b)
  after-same k flag LastAffected b = ap (λ (o : Ordering). cond (is_gt o) false flag) (against-same k b)
  after-same k flag Limit b = refl

  flag-same : (k : K) (flag : Bool) (es : List (EventKind × Bound K)) → flag_from vcmp (into k) flag (map event_as es) ≡ flag_from kcmp k flag es
  flag-same k flag [] = refl
  flag-same k flag (e ∷ es) =
      ap (λ (b : Bool). flag_from vcmp (into k) b (map event_as es)) (after-same k flag e.0 e.1) ∙ flag-same k (flag_after kcmp k flag e.0 e.1) es

  -- ---- limits

  limits-same : (es : List (EventKind × Bound K)) → list_any (λ (e : EventKind × Bound V). is_limit e.0) (map event_as es) ≡ list_any (λ (e : EventKind × Bound K). is_limit e.0) es
  limits-same [] = refl
  limits-same (e ∷ es) = ap (λ (b : Bool). is_limit e.0 || b) (limits-same es)

  before-same : (k : K) (es : List (EventKind × Bound K)) → list_any (λ (e : EventKind × Bound V). is_limit e.0 && is_lt (against vcmp (into k) e.1)) (map event_as es) ≡ list_any (λ (e : EventKind × Bound K). is_limit e.0 && is_lt (against kcmp k e.1)) es
  before-same k [] = refl
  before-same k (e ∷ es) =
      ap (λ (o : Ordering). (is_limit e.0 && is_lt o) || list_any (λ (e : EventKind × Bound V). is_limit e.0 && is_lt (against vcmp (into k) e.1)) (map event_as es)) (against-same k e.1)
      ∙ ap (λ (b : Bool). (is_limit e.0 && is_lt (against kcmp k e.1)) || b) (before-same k es)

  within-same : (k : K) (es : List (EventKind × Bound K)) → is_within_limits vcmp (into k) (map event_as es) ≡ is_within_limits kcmp k es
  within-same k es =
      ap (λ (b : Bool). not b || list_any (λ (e : EventKind × Bound V). is_limit e.0 && is_lt (against vcmp (into k) e.1)) (map event_as es)) (limits-same es)
      ∙ ap (λ (b : Bool). not (list_any (λ (e : EventKind × Bound K). is_limit e.0) es) || b) (before-same k es)

  pub in_range-same : (k : K) (es : List (EventKind × Bound K)) → in_range vcmp (into k) (map event_as es) ≡ in_range kcmp k es
  in_range-same k es =
      ap (λ (b : Bool). b && flag_from vcmp (into k) false (sorted vcmp (map event_as es))) (within-same k es)
      ∙ ap (λ (b : Bool). is_within_limits kcmp k es && b) (ap (flag_from vcmp (into k) false) (sorted-same es) ∙ flag-same k false (sorted kcmp es))
