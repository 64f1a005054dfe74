use Rattle.std.proofs.Common.{◌≡◌, List, get_or, set, sym, ap, subst, ◌∙◌}
use Rattle.std.specs.Prelude.{Option, Some, None, Ok}
use Rattle.book_model.specs.declared.answers.Progress.{Progress}
use Rattle.book_model.specs.Steps.{Finishes}
use Rattle.snapshot.specs.declared.job.Job.{Job}
use Rattle.snapshot.specs.Jobs.{outcome}
use Rattle.schedule.specs.Holding.{machine, IsHolding}
use Rattle.schedule.proofs.Holding.{below, held-job, some-job, finished-holding, spends-by, put-back}
use Rattle.schedule.proofs.jobs.work.Goals as goal

pub do_job-requires-after_bounds : goal.do_job-requires-after_bounds
do_job-requires-after_bounds g c = λ κs fresh.
    let lt = below c.args.book.now c.args.held.now.items c.args.by c.callers.result c.requires c.callers.ensures c.if-callers-by.false in
    let has : get_or c.args.held.now.items c.args.by None ≡ Some c.in-Some.job = held-job c.args.held.now.items c.args.by c.index_mut.result.now c.in-Some.job lt.1 c.index_mut.ensures.value (sym c.take.ensures.value ∙ c.in-Some.is) in
    some-job c.args.book.now.history c.in-Some.job (c.requires.each c.args.by c.in-Some.job has).1

pub handed_in-requires-clause-holds : goal.handed_in-requires-clause-holds
handed_in-requires-clause-holds g c =
    let lt = below c.args.book.now c.args.held.now.items c.args.by c.callers.result c.requires c.callers.ensures c.if-callers-by.false in
    let has : get_or c.args.held.now.items c.args.by None ≡ Some c.in-Some.job = held-job c.args.held.now.items c.args.by c.index_mut.result.now c.in-Some.job lt.1 c.index_mut.ensures.value (sym c.take.ensures.value ∙ c.in-Some.is) in
    c.in-Ok.ensures.holds c.args.book.now.history (c.requires.each c.args.by c.in-Some.job has).1

pub returns-in-Ok-Going-clause-holding : goal.returns-in-Ok-Going-clause-holding
returns-in-Ok-Going-clause-holding g c =
    let lt = below c.args.book.now c.args.held.now.items c.args.by c.callers.result c.requires c.callers.ensures c.if-callers-by.false in
    subst (λ (o : Option Job). IsHolding c.handed_in.new.book (set c.args.held.now.items c.args.by o)) (sym c.take.ensures.after)
    (finished-holding c.args.book.now c.handed_in.new.book c.args.held.now.items c.args.by (outcome c.in-Ok.finished) c.in-Ok-Going.field-0 c.point-point.ensures.sound c.in-Ok-Going.ensures lt.0 c.requires)

pub returns-in-Ok-Going-clause-does : goal.returns-in-Ok-Going-clause-does
returns-in-Ok-Going-clause-does g c =
    let lt = below c.args.book.now c.args.held.now.items c.args.by c.callers.result c.requires c.callers.ensures c.if-callers-by.false in
    let has : get_or c.args.held.now.items c.args.by None ≡ Some c.in-Some.job = held-job c.args.held.now.items c.args.by c.index_mut.result.now c.in-Some.job lt.1 c.index_mut.ensures.value (sym c.take.ensures.value ∙ c.in-Some.is) in
    let done = subst (λ (p : Progress). Finishes c.args.by (outcome c.in-Ok.finished) c.args.book.now (Ok p) c.handed_in.new.book) c.in-Ok-Going.field-0-is c.in-Ok-Going.ensures in
    (lt.0, (outcome c.in-Ok.finished, spends-by c.args.book.now c.handed_in.new.book c.args.held.now.items c.args.by c.in-Some.job (outcome c.in-Ok.finished).job c.take.new.self has c.in-Ok.ensures.same c.take.ensures.after, done))

pub returns-in-Ok-Published-clause-holding : goal.returns-in-Ok-Published-clause-holding
returns-in-Ok-Published-clause-holding g c =
    let lt = below c.args.book.now c.args.held.now.items c.args.by c.callers.result c.requires c.callers.ensures c.if-callers-by.false in
    subst (λ (o : Option Job). IsHolding c.handed_in.new.book (set c.args.held.now.items c.args.by o)) (sym c.take.ensures.after)
    (finished-holding c.args.book.now c.handed_in.new.book c.args.held.now.items c.args.by (outcome c.in-Ok.finished) c.in-Ok-Published.field-0 c.point-point.ensures.sound c.in-Ok-Published.ensures lt.0 c.requires)

pub returns-in-Ok-Published-clause-does : goal.returns-in-Ok-Published-clause-does
returns-in-Ok-Published-clause-does g c =
    let lt = below c.args.book.now c.args.held.now.items c.args.by c.callers.result c.requires c.callers.ensures c.if-callers-by.false in
    let has : get_or c.args.held.now.items c.args.by None ≡ Some c.in-Some.job = held-job c.args.held.now.items c.args.by c.index_mut.result.now c.in-Some.job lt.1 c.index_mut.ensures.value (sym c.take.ensures.value ∙ c.in-Some.is) in
    let done = subst (λ (p : Progress). Finishes c.args.by (outcome c.in-Ok.finished) c.args.book.now (Ok p) c.handed_in.new.book) c.in-Ok-Published.field-0-is c.in-Ok-Published.ensures in
    (lt.0, (outcome c.in-Ok.finished, _, spends-by c.args.book.now c.handed_in.new.book c.args.held.now.items c.args.by c.in-Some.job (outcome c.in-Ok.finished).job c.take.new.self has c.in-Ok.ensures.same c.take.ensures.after, done))

pub returns-in-Err-clause-holding : goal.returns-in-Err-clause-holding
returns-in-Err-clause-holding g c =
    let lt = below c.args.book.now c.args.held.now.items c.args.by c.callers.result c.requires c.callers.ensures c.if-callers-by.false in
    let has : get_or c.args.held.now.items c.args.by None ≡ Some c.in-Some.job = held-job c.args.held.now.items c.args.by c.index_mut.result.now c.in-Some.job lt.1 c.index_mut.ensures.value (sym c.take.ensures.value ∙ c.in-Some.is) in
    subst (λ (xs : List (Option Job)). IsHolding c.args.book.now xs) (sym (put-back c.args.held.now.items c.args.by c.in-Some.job c.in-Err.job c.take.new.self has c.in-Err.ensures.err)) c.requires

pub returns-in-Err-clause-err : goal.returns-in-Err-clause-err
returns-in-Err-clause-err g c =
    let lt = below c.args.book.now c.args.held.now.items c.args.by c.callers.result c.requires c.callers.ensures c.if-callers-by.false in
    let has : get_or c.args.held.now.items c.args.by None ≡ Some c.in-Some.job = held-job c.args.held.now.items c.args.by c.index_mut.result.now c.in-Some.job lt.1 c.index_mut.ensures.value (sym c.take.ensures.value ∙ c.in-Some.is) in
    ap (λ (xs : List (Option Job)). machine c.args.book.now xs) (put-back c.args.held.now.items c.args.by c.in-Some.job c.in-Err.job c.take.new.self has c.in-Err.ensures.err)
