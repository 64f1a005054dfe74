use Rattle.std.proofs.Common.{◌≡◌, map, take}
use Rattle.std.specs.Arc.{arc_value}
use Rattle.form_index.proofs.parts.with_part.Given as goal

abbrev pub invariant-loop-part : goal.invariant-loop-part
invariant-loop-part l = map (λ p. arc_value p) l.all.items ≡ map (λ p. arc_value p) (take l.part-index l.parts)
