use Rattle.std.proofs.Common.{rules, ◌≡◌, List, sym, subst, refl}
use Rattle.std.specs.Arc.{arc_value}
use Rattle.history.specs.declared.past.Past.{Past}
use Rattle.history.specs.Pieces.{git_ranges_in}
use Rattle.piece_work.specs.Sets.{IsSetOf}
use Rattle.impact_job.specs.declared.tables.Plan.{Plan}
use Rattle.impact_job.specs.Tables.{IsPlanOf, IsTodoOf}
use Rattle.snapshot.specs.declared.job.Job.{Job}
use Rattle.snapshot.specs.declared.job.Job.TheVariants as jobs
use Rattle.snapshot.specs.declared.job.Finished.{Finished}
use Rattle.snapshot.specs.declared.job.Finished.TheVariants as finished
use Rattle.snapshot.specs.Jobs.{name, outcome, IsJob, IsDone}
use Rattle.snapshot.proofs.Jobs.{done-holds, none-out, at-number}
use Rattle.snapshot.proofs.work.do_job.Goals as goal

pub returns-in-Ok-clause-holds : goal.returns-in-Ok-clause-holds
returns-in-Ok-clause-holds g c =
    let f : Finished = finished.Plan c.in-Plan.build c.in-Ok.plan c.in-Ok.places in
    let same : (outcome f).job ≡ name c.args.job = search rules in
    let done : (b p : List Past) → IsJob c.args.job b p → IsDone f b p = search rules in
    done-holds c.args.job f same done (none-out (arc_value c.in-Ok.plan).todo.items c.in-Ok.places.items c.in-Ok.ensures.places)

pub returns-in-Ok-gated-clause-done : goal.returns-in-Ok-gated-clause-done
returns-in-Ok-gated-clause-done g c = λ b p j.
    let own : IsJob (jobs.Piece c.in-Piece.build c.in-Piece.plan c.in-Piece.number) b p = subst (λ (job : Job). IsJob job b p) c.in-Piece.is j in
    let is : IsPlanOf c.deref-in-Piece.result.now b p = subst (λ (t : Plan). IsPlanOf t b p) (sym c.deref-in-Piece.ensures) own.0 in
    at-number (IsTodoOf b p) (git_ranges_in p) (arc_value c.in-Piece.plan).todo.items c.in-Piece.number (λ x. IsSetOf p x (arc_value c.in-Ok-gated.set)) own.0.todo own.1 (λ x at. c.in-Ok-gated.ensures b p x is at)

pub returns-in-Ok-gated-clause-holds : goal.returns-in-Ok-gated-clause-holds
returns-in-Ok-gated-clause-holds g c =
    let f : Finished = finished.Piece c.in-Piece.build c.upto.result c.in-Piece.number c.in-Ok-gated.set in
    let same : (outcome f).job ≡ name c.args.job = search rules in
    done-holds c.args.job f same (returns-in-Ok-gated-clause-done g c) refl
