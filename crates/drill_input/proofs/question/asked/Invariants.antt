use Rattle.std.proofs.Common.{◌≡◌}
use Rattle.drill_input.specs.Questions.{asked}
use Rattle.drill_input.proofs.question.asked.Given as goal

abbrev pub invariant-loop : goal.invariant-loop
invariant-loop l = (l.ids.items, l.draws) ≡ asked l.size l.counter l.fn.draws
