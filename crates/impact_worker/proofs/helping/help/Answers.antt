use Rattle.impact_worker.proofs.Working.{helped-none, helped-more, helped-same}
use Rattle.impact_worker.proofs.helping.help.Goals as goal

pub loop-init : goal.loop-init
loop-init g c = helped-none (g.D.Desk.caller c.args.desk.now) c.point-known.ensures.known.legal

pub loop-preserved-in-Did : goal.loop-preserved-in-Did
loop-preserved-in-Did g c =
    helped-more c.loop.did c.saturating_add-did.result (g.D.Desk.caller c.args.desk.now) (g.D.Desk.caller c.loop.desk) (g.D.Desk.caller c.work_once.new.desk) c.saturating_add-did.ensures c.loop.invariant c.in-Did.ensures

pub loop-preserved-in-Nothing : goal.loop-preserved-in-Nothing
loop-preserved-in-Nothing g c =
    helped-same c.loop.did (g.D.Desk.caller c.args.desk.now) (g.D.Desk.caller c.loop.desk) (g.D.Desk.caller c.work_once.new.desk) c.loop.invariant c.in-Nothing.ensures.0

pub loop-preserved : goal.loop-preserved
loop-preserved g c =
    helped-same c.loop.did (g.D.Desk.caller c.args.desk.now) (g.D.Desk.caller c.loop.desk) (g.D.Desk.caller c.work_once.new.desk) c.loop.invariant c.in-Memory.ensures.0
