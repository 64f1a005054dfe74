-- The orders of bounds and of events are total where that of versions is.
use Rattle.std.proofs.Common.{◌≡◌, ℕ, List, [], ◌∷◌, Ordering, Less, Equal, Greater, nat_cmp, refl, sym, subst}
use Rattle.std.specs.Cmp.{IsTotalOrder, nat_cmp_total, on_total, then_total}
use Rattle.std.specs.Cmp.Lexicographic.{lists_total, slice_cmp}
use Rattle.std.specs.Ordering.{on, ordering_then, then_cmp}
use Rattle.osv_prim.specs.Ranges.{bound_cmp, event_cmp, kind_rank}
use Rattle.osv_prim.specs.declared.bound.Bound.{Bound}
use Rattle.osv_prim.specs.declared.bound.Bound.TheVariants.{Lowest, At, Endless}
use Rattle.osv_prim.specs.declared.event.EventKind.{EventKind}

-- a bound by its place among the three kinds, and then by its value
abbrev place : {T : Type 0} → Bound T → ℕ
place Lowest = 0
place (At t) = 1
place Endless = 2

abbrev values : {T : Type 0} → Bound T → List T
values Lowest = []
values (At t) = t ∷ []
values Endless = []

abbrev by_parts : {T : Type 0} → (T → T → Ordering) → Bound T → Bound T → Ordering
by_parts cmp = then_cmp (on place nat_cmp) (on values (slice_cmp cmp))

then_equal : (r : Ordering) → r ≡ ordering_then r Equal
then_equal Less = refl
then_equal Equal = refl
then_equal Greater = refl

same : {T : Type 0} (cmp : T → T → Ordering) (a b : Bound T) → by_parts cmp a b ≡ bound_cmp cmp a b
same cmp Lowest Lowest = refl
same cmp Lowest (At u) = refl
same cmp Lowest Endless = refl
same cmp (At t) Lowest = refl
same cmp (At t) (At u) = sym (then_equal (cmp t u))
same cmp (At t) Endless = refl
same cmp Endless Lowest = refl
same cmp Endless (At u) = refl
same cmp Endless Endless = refl

pub bound_total : {T : Type 0} (cmp : T → T → Ordering) → IsTotalOrder cmp → IsTotalOrder (bound_cmp cmp)
bound_total {T = T} cmp o =
    subst (λ (R : Bound T → Bound T → Ordering). IsTotalOrder R) (λ i a b. same cmp a b i)
    (then_total (on_total place nat_cmp_total) (on_total values (lists_total o)))

pub event_total : {T : Type 0} (cmp : T → T → Ordering) → IsTotalOrder cmp → IsTotalOrder (event_cmp cmp)
event_total {T = T} cmp o =
    then_total (on_total (λ (e : EventKind × Bound T). e.1) (bound_total cmp o)) (on_total (λ (e : EventKind × Bound T). kind_rank e.0) nat_cmp_total)
