use Rattle.impact_worker.proofs.Working.{taken-is}
use Rattle.impact_worker.proofs.one.take_of.Goals as goal

pub returns : goal.returns
returns g c = taken-is c.take.result (g.D.Desk.caller c.args.desk.now) (g.D.Desk.caller c.take.new.self) c.take.ensures.acts c.take.ensures.counts
