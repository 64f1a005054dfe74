use Rattle.std.proofs.Common.{take}
use Rattle.std.specs.Option.{option_map}
use Rattle.range_eval.specs.Latest.{IsLatest}
use Rattle.range_eval.proofs.plain.latest.Given as goal

abbrev pub invariant-loop-event : goal.invariant-loop-event
invariant-loop-event g l = IsLatest g.T.Ord.cmp l.version (take l.event-index l.events) (option_map (λ e. e.now) l.latest)
