use Rattle.std.proofs.Common.{◌≡◌, ◌++◌, map, take}
use Rattle.std.specs.Arc.{arc_value}
use Rattle.impact_job.proofs.merge.put_all.Given as goal

abbrev pub invariant-loop-record : goal.invariant-loop-record
invariant-loop-record l = map (λ a. arc_value a) l.records.items ≡ map (λ a. arc_value a) l.fn.records.items ++ map (λ a. arc_value a) (take l.record-index l.more)
