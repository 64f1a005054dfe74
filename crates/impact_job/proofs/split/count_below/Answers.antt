use Rattle.std.proofs.Common.{rules}
use Rattle.std.specs.Arc.{arc_value}
use Rattle.std.proofs.lemmas.List.Sorted.{IsPartitionPoint-from_clause}
use Rattle.impact_job.specs.Order.{is_below}
use Rattle.impact_job.proofs.Parting.{ascending, partitioned}
use Rattle.impact_job.proofs.split.count_below.Goals as goal

pub returns-clause-point : goal.returns-clause-point
returns-clause-point c = λ up.
    IsPartitionPoint-from_clause (λ a. is_below c.args.id.now (arc_value a)) c.args.records.now c.partition_point.result c.partition_point.ensures.partitioned
    (partitioned (λ a. arc_value a) c.args.id.now c.args.records.now (ascending _ up)) (λ a r q k. search rules)
