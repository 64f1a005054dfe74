-- The bounds that the events of a range name among the versions of one order, and the form that is kept of them
-- (OSV schema 1.6, "affected[].ranges[].events"; the form is our own).
use Rattle.std.specs.Prelude.{◌≡◌, ℕ, List, [], ◌∷◌, Option, Some, None, option_map, if◌then◌else◌}
use Rattle.std.specs.Option.{option_and_then}
use Rattle.std.specs.declared.cmp.Ordering.{Ordering}
use Rattle.osv_prim.specs.Events.{is_endless, is_lowest}
use Rattle.osv_prim.specs.declared.bound.Bound.{Bound}
use Rattle.osv_prim.specs.declared.bound.Bound.TheVariants.{Lowest, At, Endless}
use Rattle.osv_prim.specs.declared.event.Event.{Event}
use Rattle.osv_prim.specs.declared.event.EventKind.{EventKind}
use Rattle.range_eval.specs.Compiled.{StandsFor}
use Rattle.range_eval.specs.declared.compiled.Compiled.{Compiled}

module _ {K : Type 0} (reading : List ℕ → Option K) where
  -- The bound that an event names, if its value can be read. An introduced `0` and a limit `*` can be read in each order.
  abbrev pub bound_in : Event → Option (Bound K)
  bound_in e =
      if is_lowest e then Some Lowest
      else if is_endless e then Some Endless
      else option_map At (reading e.value)

  -- the bounds of all events, if each can be read
  abbrev pub bounds_in : List Event → Option (List (EventKind × Bound K))
  bounds_in [] = Some []
  bounds_in (e ∷ es) = option_and_then (λ b. option_map (λ bs. (e.kind, b) ∷ bs) (bounds_in es)) (bound_in e)

  module _ (cmp : K → K → Ordering) where
    -- the form stands for the range of these events
    pub record IsForm (events : List Event) (c : Compiled K) : Type 0 where
      pub bounds : List (EventKind × Bound K)
      pub read : bounds_in events ≡ Some bounds
      pub stands : StandsFor cmp c bounds

    -- there is a form where all values can be read
    abbrev pub IsCompiled : List Event → Option (Compiled K) → Type 0
    IsCompiled events None = bounds_in events ≡ None
    IsCompiled events (Some c) = IsForm events c
