-- The bounds that the events of a range name, and the versions that such a range contains (OSV schema 1.6,
-- "affected[].ranges[].events" and "Evaluation"; that a range with a value that can't be read contains nothing
-- is our own).
use Rattle.std.specs.Prelude.{ℕ, Bool, false, List, [], ◌∷◌, Option, Some, None, option_map, if◌then◌else◌}
use Rattle.std.specs.Option.{option_and_then}
use Rattle.osv_prim.specs.Events.{is_endless, is_lowest}
use Rattle.osv_prim.specs.Ranges.{in_range}
use Rattle.osv_prim.specs.declared.bound.Bound.{Bound}
use Rattle.osv_prim.specs.declared.bound.Bound.TheVariants.{Lowest, At, Endless}
use Rattle.osv_prim.specs.declared.event.Event.{Event}
use Rattle.osv_prim.specs.declared.event.EventKind.{EventKind}
use Rattle.version_order.specs.declared.order.Order.{Order}
use Rattle.version_order.specs.declared.version.Version.{Version}
use Rattle.version_order.specs.Versions.{reading, version_cmp}

-- The bound that an event names, if its value can be read. An introduced `0` and a limit `*` can be read in each order.
abbrev pub bound_of : Order → Event → Option (Bound Version)
bound_of o e =
    if is_lowest e then Some Lowest
    else if is_endless e then Some Endless
    else option_map At (reading o e.value)

-- the bounds of all events, if each can be read
abbrev pub bounds_of : Order → List Event → Option (List (EventKind × Bound Version))
bounds_of o [] = Some []
bounds_of o (e ∷ es) = option_and_then (λ b. option_map (λ bs. (e.kind, b) ∷ bs) (bounds_of o es)) (bound_of o e)

abbrev pub is_in : Version → Option (List (EventKind × Bound Version)) → Bool
is_in v None = false
is_in v (Some bounds) = in_range version_cmp v bounds

-- All values can be read, and the version is in the range of their bounds.
abbrev pub contains : Order → List Event → Version → Bool
contains o events v = is_in v (bounds_of o events)

abbrev pub is_contained : Order → List Event → Option Version → Bool
is_contained o events None = false
is_contained o events (Some v) = contains o events v

-- the text is a version, and the range contains it
abbrev pub contains_text : Order → List Event → List ℕ → Bool
contains_text o events text = is_contained o events (reading o text)
