use Rattle.std.proofs.Common.{◌≡◌, ◌<◌, get_or, set, length, sym, subst, ◌∙◌, arith}
use Rattle.std.specs.Prelude.{Option, Some, None}
use Rattle.snapshot.specs.declared.job.Job.{Job}
use Rattle.snapshot.specs.Jobs.{name}
use Rattle.schedule.specs.Holding.{IsHolding}
use Rattle.schedule.proofs.Holding.{held-job, back-holding}
use Rattle.schedule.proofs.jobs.end.Goals as goal

pub give_back-requires-clause-holds : goal.give_back-requires-clause-holds
give_back-requires-clause-holds c =
    let below : c.args.by < c.args.book.now.callers = omega (arith, c.requires.within, c.args.held.now.ok.0, c.requires.holding.long) in
    let within : c.args.by < length c.args.held.now.items = omega (arith, c.requires.within, c.args.held.now.ok.0) in
    let has : get_or c.args.held.now.items c.args.by None ≡ Some c.in-Some.job = held-job c.args.held.now.items c.args.by c.index_mut.result.now c.in-Some.job within c.index_mut.ensures.value (sym c.take.ensures.value ∙ c.in-Some.is) in
    (c.requires.holding.each c.args.by c.in-Some.job has).1

pub returns-clause-holding : goal.returns-clause-holding
returns-clause-holding c =
    let below : c.args.by < c.args.book.now.callers = omega (arith, c.requires.within, c.args.held.now.ok.0, c.requires.holding.long) in
    let within : c.args.by < length c.args.held.now.items = omega (arith, c.requires.within, c.args.held.now.ok.0) in
    let has : get_or c.args.held.now.items c.args.by None ≡ Some c.in-Some.job = held-job c.args.held.now.items c.args.by c.index_mut.result.now c.in-Some.job within c.index_mut.ensures.value (sym c.take.ensures.value ∙ c.in-Some.is) in
    let mine = (c.requires.holding.each c.args.by c.in-Some.job has).0 in
    subst (λ (o : Option Job). IsHolding c.give_back.new.self (set c.args.held.now.items c.args.by o)) (sym c.take.ensures.after)
    (back-holding c.args.book.now c.give_back.new.self c.args.held.now.items c.args.by (name c.in-Some.job) c.point-point.ensures.sound mine c.in-Ok.ensures.1 below c.requires.holding)
