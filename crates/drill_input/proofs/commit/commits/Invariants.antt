use Rattle.std.proofs.Common.{◌≡◌}
use Rattle.drill_input.specs.Commits.{commits}
use Rattle.drill_input.proofs.commit.commits.Given as goal

abbrev pub invariant-loop-number : goal.invariant-loop-number
invariant-loop-number l = (l.rows.items, l.draws) ≡ commits l.number l.fn.draws
