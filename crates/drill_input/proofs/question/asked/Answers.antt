use Rattle.std.proofs.Common.{◌≡◌, ℕ, ap, ◌∙◌, arith}
use Rattle.drill_input.specs.Questions.{asked}
use Rattle.drill_input.proofs.question.asked.Goals as goal

pub returns : goal.returns
returns c =
    let end : c.loop.counter ≡ 10 = omega (arith, c.loop.auto.counter-end, c.loop-test.false) in
    c.loop.invariant ∙ ap (λ (k : ℕ). asked c.args.size k c.args.draws.now) end
