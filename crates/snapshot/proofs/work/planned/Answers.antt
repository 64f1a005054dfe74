use Rattle.std.proofs.Common.{sym, subst}
use Rattle.impact_job.specs.declared.tables.Plan.{Plan}
use Rattle.impact_job.specs.Tables.{IsPlanOf}
use Rattle.snapshot.proofs.work.planned.Goals as goal

pub returns-clause-plan : goal.returns-clause-plan
returns-clause-plan c = λ b p x. subst (λ (t : Plan). IsPlanOf t b p) (sym c.in_ok-new.ensures.ok) (c.in_ok-plan.ensures.plan b p x)
