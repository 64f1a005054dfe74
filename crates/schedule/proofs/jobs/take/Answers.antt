use Rattle.std.proofs.Common.{◌≡◌, get_or, subst}
use Rattle.std.specs.Prelude.{None, Ok}
use Rattle.turn_lock.specs.declared.note.Noted.{Noted}
use Rattle.book_model.specs.declared.answers.Taken.{Taken}
use Rattle.book_model.specs.Steps.{Takes}
use Rattle.snapshot.specs.declared.job.Job.{Job}
use Rattle.snapshot.specs.Jobs.{name, IsJob}
use Rattle.schedule.proofs.Holding.{below, no-job, noted-holding, taken-holding, taken-name, gets-by}
use Rattle.schedule.proofs.jobs.take.Goals as goal

pub returns-in-Job-clause-holding : goal.returns-in-Job-clause-holding
returns-in-Job-clause-holding c =
    let lt = below c.args.book.now c.args.held.now.items c.args.by c.callers.result c.requires c.callers.ensures c.if-callers-by.false in
    taken-holding c.args.book.now c.take.new.self c.args.held.now.items c.args.by c.in-Job.job
    (subst (λ (x : Taken Job). Takes name IsJob c.args.by c.args.book.now (Ok x) c.take.new.self) c.in-Job.is c.in_ok-out.ensures) lt.0 c.requires

pub returns-in-Nothing-clause-holding : goal.returns-in-Nothing-clause-holding
returns-in-Nothing-clause-holding c =
    let p = subst (λ (x : Taken Job). Takes name IsJob c.args.by c.args.book.now (Ok x) c.take.new.self) c.in-Nothing.is c.in_ok-out.ensures in
    noted-holding c.args.book.now c.take.new.self c.args.held.now.items Noted.Nothing c.args.by c.in-Nothing.out None p.2 c.requires

pub returns-in-Job-clause-does : goal.returns-in-Job-clause-does
returns-in-Job-clause-does c =
    let lt = below c.args.book.now c.args.held.now.items c.args.by c.callers.result c.requires c.callers.ensures c.if-callers-by.false in
    let p = subst (λ (x : Taken Job). Takes name IsJob c.args.by c.args.book.now (Ok x) c.take.new.self) c.in-Job.is c.in_ok-out.ensures in
    let none : get_or c.args.held.now.items c.args.by None ≡ None = no-job c.as_slice.result.now c.args.held.now.items c.args.by c.has_job.result c.as_slice.ensures.value c.has_job.ensures c.if-has_job.false in
    (lt.0, (name c.in-Job.job, gets-by c.args.book.now c.take.new.self c.args.held.now.items c.args.by c.in-Job.job none, taken-name c.args.book.now c.take.new.self c.args.by c.in-Job.job p))
