use Rattle.std.proofs.Common.{sym, subst}
use Rattle.history.specs.Prefixes.{records}
use Rattle.impact_job.specs.Tables.{StandsFor}
use Rattle.impact_job.specs.declared.tables.Plan.{Plan}
use Rattle.impact_job.specs.declared.tables.Tables.{Tables}
use Rattle.record_moves.specs.Moved.{IsMoved}
use Rattle.snapshot.proofs.assembly.assemble.Goals as goal

pub returns-clause-stands : goal.returns-clause-stands
returns-clause-stands c = λ b p old filled.
    c.of_tables.ensures.stands b p old (subst (λ (x : Plan). IsMoved x.moves (records b) (records p)) (sym c.deref.ensures) filled.plan.moved)
    (subst (λ (t : Tables). StandsFor t p) (sym c.in_ok-new.ensures.ok) (c.in_ok-tables.ensures.stands b p filled))
