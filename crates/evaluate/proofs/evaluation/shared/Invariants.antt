use Rattle.std.proofs.Common.{◌≡◌, map, take}
use Rattle.std.specs.Arc.{arc_value}
use Rattle.evaluate.proofs.evaluation.shared.Given as goal

abbrev pub invariant-loop-record : goal.invariant-loop-record
invariant-loop-record l = map (λ a. arc_value a) l.records.items ≡ map (λ a. arc_value a.now) (take l.record-index l.found)
