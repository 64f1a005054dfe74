use Rattle.std.proofs.Common.{ltb, rules}
use Rattle.std.proofs.lemmas.List.Sorted.{IsPartitionPoint-from_clause}
use Rattle.snapshot.proofs.packages.count_below.Goals as goal

pub returns-clause-point : goal.returns-clause-point
returns-clause-point c parted =
    IsPartitionPoint-from_clause (λ i. ltb i c.args.start) c.args.indexes.now c.partition_point.result c.partition_point.ensures.partitioned parted (λ a r q k. search rules)
