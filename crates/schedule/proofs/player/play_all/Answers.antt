use Rattle.std.proofs.Common.{[], take, refl, sym, subst, ◌∙◌, arith}
use Rattle.schedule.specs.Machine.{Machine, Plays}
use Rattle.schedule.specs.Holding.{machine}
use Rattle.schedule.proofs.Playing.{plays-step, on_err-any}
use Rattle.schedule.proofs.player.play_all.Goals as goal

pub returns-in_err-answers-clause-err : goal.returns-in_err-answers-clause-err
returns-in_err-answers-clause-err g c = on_err-any c.from_residual.result _ (0, [], refl)

pub loop-step-preserved : goal.loop-step-preserved
loop-step-preserved g c = (
  c.act.ensures.holding,
  c.act.ensures.settings ∙ c.loop-step.invariant.1,
  plays-step c.args.list.now c.loop-step.step-index c.step-item.result c.step-item.result (machine c.args.book.now c.args.held.now.items) (machine c.loop-step.book c.loop-step.held.items)
      (machine c.act.new.book c.act.new.held.items) c.loop-step.answers.items c.push_reserved.new.self.items c.in_ok-answer.answer c.loop-step-test.true c.step-item.is
      c.push_reserved.ensures.items c.loop-step.invariant.2 c.in_ok-answer.ensures.does,
  omega (arith, c.push_reserved.ensures.len, c.loop-step.invariant.3),
  omega (arith, c.push_reserved.ensures.capacity, c.loop-step.invariant.4),
)

pub returns-in_err-answer-clause-err : goal.returns-in_err-answer-clause-err
returns-in_err-answer-clause-err g c =
    on_err-any c.from_residual-in_err-answer.result _ (
      c.loop-step.step-index,
      c.loop-step.answers.items,
      subst (λ (m : Machine). Plays (take c.loop-step.step-index c.args.list.now) (machine c.args.book.now c.args.held.now.items) c.loop-step.answers.items m) (sym c.in_err-answer.ensures.err) c.loop-step.invariant.2,
    )
