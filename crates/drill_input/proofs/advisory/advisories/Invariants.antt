use Rattle.std.proofs.Common.{◌≡◌}
use Rattle.std.specs.Prelude.{map}
use Rattle.std.specs.Arc.{arc_value}
use Rattle.drill_input.specs.Advisories.{advisories}
use Rattle.drill_input.proofs.advisory.advisories.Given as goal

abbrev pub invariant-loop-number : goal.invariant-loop-number
invariant-loop-number l = (map (λ a. arc_value a) l.list.items, l.draws) ≡ advisories l.size l.number l.fn.draws
