use Rattle.impact_worker.specs.Working.{Works}
use Rattle.impact_worker.proofs.drained.drain.Given as goal

-- the jobs so far were handed in
abbrev pub invariant-loop-did : goal.invariant-loop-did
invariant-loop-did g l = Works l.did (g.D.Desk.caller l.initial.desk) (g.D.Desk.caller l.desk)
