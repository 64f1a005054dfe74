use Rattle.snapshot.specs.Jobs.{outcome}
use Rattle.desk_calls.proofs.Pulling.{handed-in}
use Rattle.impact_worker.proofs.one.finish_of.Goals as goal

pub returns : goal.returns
returns g c = record {
  handed = handed-in (outcome c.args.finished) c.finish.result (g.D.Desk.caller c.args.desk.now) (g.D.Desk.caller c.finish.new.self) c.requires.free c.finish.ensures.acts c.finish.ensures.counts;
  counts = c.finish.ensures.counts;
}
