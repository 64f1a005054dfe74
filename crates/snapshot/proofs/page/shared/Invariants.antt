use Rattle.std.proofs.Common.{◌≡◌, map, take}
use Rattle.std.specs.Arc.{arc_value}
use Rattle.snapshot.proofs.page.shared.Given as goal

abbrev pub invariant-loop-advisory : goal.invariant-loop-advisory
invariant-loop-advisory l = map (λ a. arc_value a) l.hits.items ≡ map (λ a. arc_value a.now) (take l.advisory-index l.advisory-items)
