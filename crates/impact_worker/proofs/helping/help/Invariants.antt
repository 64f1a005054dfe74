use Rattle.impact_worker.specs.Working.{Helped}
use Rattle.impact_worker.proofs.helping.help.Given as goal

-- so many jobs were handed in
abbrev pub invariant-loop : goal.invariant-loop
invariant-loop g l = Helped l.did (g.D.Desk.caller l.initial.desk) (g.D.Desk.caller l.desk)
