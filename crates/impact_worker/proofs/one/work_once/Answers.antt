use Rattle.std.proofs.Common.{subst}
use Rattle.std.specs.Prelude.{Ok}
use Rattle.book_model.specs.declared.answers.Taken.{Taken}
use Rattle.snapshot.specs.declared.job.Job.{Job}
use Rattle.impact_worker.specs.Working.{TakenIs}
use Rattle.impact_worker.proofs.Working.{did-one, gave-back}
use Rattle.impact_worker.proofs.one.work_once.Goals as goal

pub returns-in-Ok : goal.returns-in-Ok
returns-in-Ok g c =
    let old = g.D.Desk.caller c.args.desk.now in
    let mid = g.D.Desk.caller c.take_of.new.desk in
    did-one old mid (g.D.Desk.caller c.work.new.desk) c.in-Ok-Job.job
    (subst (λ (t : Taken Job). TakenIs old (Ok t) mid) c.in-Ok-Job.field-0-is c.in-Ok-Job.ensures) c.in-Ok.ensures.work c.in-Ok.ensures.turn

pub returns-in-Err-work : goal.returns-in-Err-work
returns-in-Err-work g c =
    let old = g.D.Desk.caller c.args.desk.now in
    let mid = g.D.Desk.caller c.take_of.new.desk in
    gave-back old mid (g.D.Desk.caller c.work.new.desk) c.in-Ok-Job.job
    (subst (λ (t : Taken Job). TakenIs old (Ok t) mid) c.in-Ok-Job.field-0-is c.in-Ok-Job.ensures) c.in-Err-work.ensures.work c.in-Err-work.ensures.stay
