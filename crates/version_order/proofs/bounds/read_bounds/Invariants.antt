use Rattle.std.proofs.Common.{◌≡◌, ◌++◌, drop}
use Rattle.std.specs.Option.{option_map}
use Rattle.version_order.specs.Bounds.{bounds_of}
use Rattle.version_order.proofs.bounds.read_bounds.Given as goal

abbrev pub invariant-loop-event : goal.invariant-loop-event
invariant-loop-event l = option_map (λ bs. l.bounds.items ++ bs) (bounds_of l.order (drop l.event-index l.events)) ≡ bounds_of l.order l.events
