use Rattle.std.specs.Option.{option_map}
use Rattle.range_eval.proofs.Flag.{next_latest}
use Rattle.range_eval.proofs.plain.latest.Goals as goal

pub loop-event-preserved : goal.loop-event-preserved
loop-event-preserved g c =
    next_latest g.T.Ord.cmp g.met.T.Ord.total c.args.version.now c.args.events.now c.loop-event.event-index c.event-item.result (option_map (λ e. e.now) c.loop-event.latest) (option_map (λ e. e.now) c.later-latest.result)
    c.loop-event-test.true c.event-item.is c.later-latest.ensures c.loop-event.invariant
