use Rattle.std.proofs.Common.{◌≡◌, ◌++◌, map, length}
use Rattle.std.specs.Arc.{arc_value}
use Rattle.std.specs.List.{AllByRecursion}
use Rattle.impact_job.specs.Order.{ids}
use Rattle.id_index.specs.Heads.{head, BeginsWithBytes}
use Rattle.id_index.proofs.index.IdIndex.build.Given as goal

abbrev pub invariant-loop-rest : goal.invariant-loop-rest
invariant-loop-rest l =
    let left = ids (map (λ a. arc_value a) l.rest) in
    let all = ids (map (λ a. arc_value a) l.records) in
    (l.heads.items ++ map head left ≡ map head all) × (AllByRecursion (BeginsWithBytes 16) left → AllByRecursion (BeginsWithBytes 16) all)

abbrev pub decreases-loop-rest : goal.decreases-loop-rest
decreases-loop-rest l = length l.rest
