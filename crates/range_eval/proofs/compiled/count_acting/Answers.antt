use Rattle.std.proofs.Common.{rules}
use Rattle.std.proofs.lemmas.List.Sorted.{IsPartitionPoint-from_clause}
use Rattle.range_eval.specs.Latest.{acts}
use Rattle.range_eval.proofs.compiled.count_acting.Goals as goal

pub returns-clause-point : goal.returns-clause-point
returns-clause-point g c = λ h.
    IsPartitionPoint-from_clause (λ e. acts g.T.Ord.cmp c.args.version.now e.0 e.1) c.args.turns.now c.partition_point.result c.partition_point.ensures.partitioned h (λ a r q k. search rules)
