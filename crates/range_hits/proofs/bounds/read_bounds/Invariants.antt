use Rattle.std.proofs.Common.{◌≡◌, ◌++◌, drop}
use Rattle.std.specs.Option.{option_map}
use Rattle.range_hits.specs.Bounds.{bounds_in}
use Rattle.range_hits.proofs.bounds.read_bounds.Given as goal

abbrev pub invariant-loop-event : goal.invariant-loop-event
invariant-loop-event g l = option_map (λ bs. l.bounds.items ++ bs) (bounds_in g.K.Key.reading (drop l.event-index l.events)) ≡ bounds_in g.K.Key.reading l.events
