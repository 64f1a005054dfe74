use Rattle.std.proofs.Common.{◌≡◌, ℕ, get_or, subst}
use Rattle.std.specs.Prelude.{None, Ok}
use Rattle.turn_lock.specs.declared.note.Noted.{Noted}
use Rattle.book_model.specs.declared.answers.Pulled.{Pulled}
use Rattle.book_model.specs.declared.answers.Pulled.TheVariants as pulled
use Rattle.book_model.specs.Steps.{Pulls}
use Rattle.snapshot.specs.declared.job.Job.{Job}
use Rattle.snapshot.specs.Jobs.{name, IsJob}
use Rattle.schedule.proofs.Holding.{below, no-job, noted-holding, pulled-holding, pulled-name, gets-by}
use Rattle.schedule.proofs.jobs.pull.Goals as goal

pub returns-in-Out-clause-holding : goal.returns-in-Out-clause-holding
returns-in-Out-clause-holding c =
    let p = subst (λ (x : Pulled Job). Pulls name IsJob c.args.by c.imports-goal.result c.args.book.now (Ok x) c.pull.new.self) c.in-Out.is c.in_ok-snapshot.ensures in
    noted-holding c.args.book.now c.pull.new.self c.args.held.now.items Noted.Out c.args.by c.in-Out.out None p.3 c.requires

pub returns-in-Job-clause-holding : goal.returns-in-Job-clause-holding
returns-in-Job-clause-holding c =
    let lt = below c.args.book.now c.args.held.now.items c.args.by c.callers.result c.requires c.callers.ensures c.if-callers-by.false in
    let p = subst (λ (x : Pulled Job). Pulls name IsJob c.args.by c.imports-goal.result c.args.book.now (Ok x) c.pull.new.self) c.in-Job.is c.in_ok-snapshot.ensures in
    pulled-holding c.args.book.now c.pull.new.self c.args.held.now.items c.args.by c.imports-goal.result c.in-Job.job p lt.0 c.requires

pub returns-in-Job-clause-does : goal.returns-in-Job-clause-does
returns-in-Job-clause-does c =
    let lt = below c.args.book.now c.args.held.now.items c.args.by c.callers.result c.requires c.callers.ensures c.if-callers-by.false in
    let p = subst (λ (x : Pulled Job). Pulls name IsJob c.args.by c.imports-goal.result c.args.book.now (Ok x) c.pull.new.self) c.in-Job.is c.in_ok-snapshot.ensures in
    let none : get_or c.args.held.now.items c.args.by None ≡ None = no-job c.as_slice.result.now c.args.held.now.items c.args.by c.has_job.result c.as_slice.ensures.value c.has_job.ensures c.if-has_job.false in (
      lt.0,
      (
        name c.in-Job.job,
        gets-by c.args.book.now c.pull.new.self c.args.held.now.items c.args.by c.in-Job.job none,
        subst (λ (goal : ℕ). Pulls (λ n. n) (λ n b p. Unit {0}) c.args.by goal c.args.book.now (Ok (pulled.Job (name c.in-Job.job))) c.pull.new.self) c.imports-goal.ensures.0
            (pulled-name c.args.book.now c.pull.new.self c.args.by c.imports-goal.result c.in-Job.job p),
      ),
    )
