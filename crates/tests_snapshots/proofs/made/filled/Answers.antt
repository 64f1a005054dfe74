use Rattle.std.proofs.Common.{◌≡◌, List, map, sym, subst, ◌∙◌}
use Rattle.std.specs.Arc.{arc_value}
use Rattle.impact_job.specs.declared.tables.Filled.{Filled}
use Rattle.impact_job.specs.Tables.{IsPlanOf, IsFilledOf}
use Rattle.snapshot.specs.declared.job.Finished.{Finished}
use Rattle.snapshot.specs.Jobs.{planned_place, IsDone}
use Rattle.tests_snapshots.proofs.made.filled.Goals as goal

pub filled_of-requires-clause-some : goal.filled_of-requires-clause-some
filled_of-requires-clause-some g c =
    let b = c.requires.0 in
    let p = c.requires.1.0 in
    let done : IsPlanOf (arc_value c.in-Ok-Plan.plan) b p × (c.in-Ok-Plan.places.items ≡ map planned_place (arc_value c.in-Ok-Plan.plan).todo.items) =
    subst (λ (f : Finished). IsDone f b p) c.in-Ok-Plan.field-0-is (c.in-Ok-Plan.ensures.done b p c.requires.1.1)
    in
    (b, (p, done.0))

pub filled_of-requires-clause-places : goal.filled_of-requires-clause-places
filled_of-requires-clause-places g c =
    let b = c.requires.0 in
    let p = c.requires.1.0 in
    let done : IsPlanOf (arc_value c.in-Ok-Plan.plan) b p × (c.in-Ok-Plan.places.items ≡ map planned_place (arc_value c.in-Ok-Plan.plan).todo.items) =
    subst (λ (f : Finished). IsDone f b p) c.in-Ok-Plan.field-0-is (c.in-Ok-Plan.ensures.done b p c.requires.1.1)
    in
    c.as_slice.ensures.value ∙ done.1

pub returns-in-Ok-Plan : goal.returns-in-Ok-Plan
returns-in-Ok-Plan g c = λ b p x.
    let done : IsPlanOf (arc_value c.in-Ok-Plan.plan) b p × (c.in-Ok-Plan.places.items ≡ map planned_place (arc_value c.in-Ok-Plan.plan).todo.items) =
    subst (λ (f : Finished). IsDone f b p) c.in-Ok-Plan.field-0-is (c.in-Ok-Plan.ensures.done b p x)
    in
    subst (λ (t : Filled). IsFilledOf t b p) (sym c.in_ok-new-in-Ok-Plan.ensures.ok) (c.in_ok-filled-in-Ok-Plan.ensures b p done.0)
