use Rattle.std.proofs.Common.{subst}
use Rattle.std.specs.Prelude.{Ok}
use Rattle.book_model.specs.declared.answers.Pulled.{Pulled}
use Rattle.snapshot.specs.declared.job.Job.{Job}
use Rattle.desk_calls.specs.Calls.{PulledIs}
use Rattle.desk_calls.proofs.Publishing.{worked, stopped-back}
use Rattle.desk_calls.proofs.turns.one_turn.Goals as goal

pub returns-in-Ok : goal.returns-in-Ok
returns-in-Ok g c =
    let old = g.D.Desk.caller c.args.desk.now in
    let mid = g.D.Desk.caller c.pull_of.new.desk in
    worked old mid (g.D.Desk.caller c.work.new.desk) c.args.goal c.in-Ok-Job.job
    (subst (λ (p : Pulled Job). PulledIs old c.args.goal (Ok p) mid) c.in-Ok-Job.field-0-is c.in-Ok-Job.ensures) c.in-Ok.ensures

pub returns-in-Err-work : goal.returns-in-Err-work
returns-in-Err-work g c =
    let old = g.D.Desk.caller c.args.desk.now in
    let mid = g.D.Desk.caller c.pull_of.new.desk in
    stopped-back old mid (g.D.Desk.caller c.work.new.desk) c.args.goal c.in-Ok-Job.job
    (subst (λ (p : Pulled Job). PulledIs old c.args.goal (Ok p) mid) c.in-Ok-Job.field-0-is c.in-Ok-Job.ensures) c.in-Err-work.ensures
