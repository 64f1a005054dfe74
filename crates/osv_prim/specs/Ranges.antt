-- Which versions are in a range of events, over any order of versions (OSV schema 1.6, "Evaluation"; which of
-- several events at one bound comes first is our own).
use Rattle.std.specs.Prelude.{ℕ, Bool, true, false, not, ◌&&◌, ◌||◌, if◌then◌else◌, List, [], ◌∷◌}
use Rattle.std.specs.List.{list_any}
use Rattle.std.specs.Ordering.{is_ge, is_gt, is_lt, nat_cmp, on, then_cmp}
use Rattle.std.specs.declared.cmp.Ordering.{Ordering}
use Rattle.std.specs.declared.cmp.Ordering.TheVariants.{Less, Equal, Greater}
use Rattle.osv_prim.specs.declared.bound.Bound.{Bound}
use Rattle.osv_prim.specs.declared.bound.Bound.TheVariants.{Lowest, At, Endless}
use Rattle.osv_prim.specs.declared.event.EventKind.{EventKind}
use Rattle.osv_prim.specs.declared.event.EventKind.TheVariants.{Introduced, Fixed, LastAffected, Limit}

-- which event comes first at one bound
abbrev pub kind_rank : EventKind → ℕ
kind_rank Introduced = 0
kind_rank Fixed = 1
kind_rank LastAffected = 2
kind_rank Limit = 3

abbrev pub is_limit : EventKind → Bool
is_limit Introduced = false
is_limit Fixed = false
is_limit LastAffected = false
is_limit Limit = true

-- the order of the versions
module _ {T : Type 0} (cmp : T → T → Ordering) where
  -- lowest is before each version, and endless after it
  abbrev pub bound_cmp : Bound T → Bound T → Ordering
  bound_cmp Lowest Lowest = Equal
  bound_cmp Lowest (At u) = Less
  bound_cmp Lowest Endless = Less
  bound_cmp (At t) Lowest = Greater
  bound_cmp (At t) (At u) = cmp t u
  bound_cmp (At t) Endless = Less
  bound_cmp Endless Lowest = Greater
  bound_cmp Endless (At u) = Greater
  bound_cmp Endless Endless = Equal

  -- by bound, and at one bound by kind
  abbrev pub event_cmp : EventKind × Bound T → EventKind × Bound T → Ordering
  event_cmp = then_cmp (on (λ (e : EventKind × Bound T). e.1) bound_cmp) (on (λ (e : EventKind × Bound T). kind_rank e.0) nat_cmp)

  -- an event put among sorted ones, and events sorted
  abbrev pub placed : EventKind × Bound T → List (EventKind × Bound T) → List (EventKind × Bound T)
  placed e [] = e ∷ []
  placed e (x ∷ xs) = if is_lt (event_cmp x e) then x ∷ placed e xs else e ∷ x ∷ xs

  abbrev pub sorted : List (EventKind × Bound T) → List (EventKind × Bound T)
  sorted [] = []
  sorted (e ∷ es) = placed e (sorted es)

  -- where a version stands to a bound
  abbrev pub against : T → Bound T → Ordering
  against v b = bound_cmp (At v) b

  -- Introduced sets the flag where the version is at or above the bound. Fixed clears it where the version is
  -- at or above, last_affected where it is above. A limit does nothing.
  abbrev pub flag_after : T → Bool → EventKind → Bound T → Bool
  flag_after v flag Introduced b = if is_ge (against v b) then true else flag
  flag_after v flag Fixed b = if is_ge (against v b) then false else flag
  flag_after v flag LastAffected b = if is_gt (against v b) then false else flag
  flag_after v flag Limit b = flag

  -- the flag after each of these events in turn
  abbrev pub flag_from : T → Bool → List (EventKind × Bound T) → Bool
  flag_from v flag [] = flag
  flag_from v flag (e ∷ es) = flag_from v (flag_after v flag e.0 e.1) es

  -- there is no limit, or the version is before one of them
  abbrev pub is_within_limits : T → List (EventKind × Bound T) → Bool
  is_within_limits v es = not (list_any (λ e. is_limit e.0) es) || list_any (λ e. is_limit e.0 && is_lt (against v e.1)) es

  -- The flag starts clear and goes through the sorted events.
  abbrev pub in_range : T → List (EventKind × Bound T) → Bool
  in_range v es = is_within_limits v es && flag_from v false (sorted es)
