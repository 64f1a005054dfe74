use Rattle.std.proofs.Common.{◌≡◌, get_or, set, refl, sym, subst, ◌∙◌}
use Rattle.std.specs.Prelude.{Option, Some, None}
use Rattle.snapshot.specs.declared.job.Job.{Job}
use Rattle.snapshot.specs.Jobs.{name}
use Rattle.schedule.specs.Holding.{IsHolding}
use Rattle.schedule.proofs.Holding.{below, held-job, back-holding, spends-by}
use Rattle.schedule.proofs.jobs.back.Goals as goal

pub give_back-requires-clause-holds : goal.give_back-requires-clause-holds
give_back-requires-clause-holds c =
    let lt = below c.args.book.now c.args.held.now.items c.args.by c.callers.result c.requires c.callers.ensures c.if-callers-by.false in
    let has : get_or c.args.held.now.items c.args.by None ≡ Some c.in-Some.job = held-job c.args.held.now.items c.args.by c.index_mut.result.now c.in-Some.job lt.1 c.index_mut.ensures.value (sym c.take.ensures.value ∙ c.in-Some.is) in
    (c.requires.each c.args.by c.in-Some.job has).1

pub returns-clause-holding : goal.returns-clause-holding
returns-clause-holding c =
    let lt = below c.args.book.now c.args.held.now.items c.args.by c.callers.result c.requires c.callers.ensures c.if-callers-by.false in
    let has : get_or c.args.held.now.items c.args.by None ≡ Some c.in-Some.job = held-job c.args.held.now.items c.args.by c.index_mut.result.now c.in-Some.job lt.1 c.index_mut.ensures.value (sym c.take.ensures.value ∙ c.in-Some.is) in
    let mine = (c.requires.each c.args.by c.in-Some.job has).0 in
    subst (λ (o : Option Job). IsHolding c.give_back.new.self (set c.args.held.now.items c.args.by o)) (sym c.take.ensures.after)
    (back-holding c.args.book.now c.give_back.new.self c.args.held.now.items c.args.by (name c.in-Some.job) c.point-point.ensures.sound mine c.in-Ok.ensures.1 lt.0 c.requires)

pub returns-clause-does : goal.returns-clause-does
returns-clause-does c =
    let lt = below c.args.book.now c.args.held.now.items c.args.by c.callers.result c.requires c.callers.ensures c.if-callers-by.false in
    let has : get_or c.args.held.now.items c.args.by None ≡ Some c.in-Some.job = held-job c.args.held.now.items c.args.by c.index_mut.result.now c.in-Some.job lt.1 c.index_mut.ensures.value (sym c.take.ensures.value ∙ c.in-Some.is) in
    (lt.0, (name c.in-Some.job, spends-by c.args.book.now c.give_back.new.self c.args.held.now.items c.args.by c.in-Some.job (name c.in-Some.job) c.take.new.self has refl c.take.ensures.after, c.in-Ok.ensures))
