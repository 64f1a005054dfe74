use Rattle.impact_worker.proofs.Working.{none-more, one-more}
use Rattle.impact_worker.proofs.drained.drain.Goals as goal

pub returns-in-Nothing-clause-works : goal.returns-in-Nothing-clause-works
returns-in-Nothing-clause-works g c =
    none-more c.loop-did.did (g.D.Desk.caller c.args.desk.now) (g.D.Desk.caller c.loop-did.desk) (g.D.Desk.caller c.work_once.new.desk) c.loop-did.invariant c.in-Nothing.ensures.0

pub returns-in-Memory-clause-works : goal.returns-in-Memory-clause-works
returns-in-Memory-clause-works g c =
    none-more c.loop-did.did (g.D.Desk.caller c.args.desk.now) (g.D.Desk.caller c.loop-did.desk) (g.D.Desk.caller c.work_once.new.desk) c.loop-did.invariant c.in-Memory.ensures.0

pub loop-did-preserved : goal.loop-did-preserved
loop-did-preserved g c =
    one-more c.loop-did.did (g.D.Desk.caller c.args.desk.now) (g.D.Desk.caller c.loop-did.desk) (g.D.Desk.caller c.work_once.new.desk) c.loop-did.invariant c.in-Did.ensures
