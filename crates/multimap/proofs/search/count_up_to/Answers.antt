use Rattle.std.proofs.Common.{rules}
use Rattle.std.specs.Ordering.{is_le}
use Rattle.std.proofs.lemmas.List.Sorted.{IsPartitionPoint-from_clause}
use Rattle.multimap.proofs.Runs.{parted-up_to}
use Rattle.multimap.proofs.search.count_up_to.Goals as goal

pub returns-clause-point : goal.returns-clause-point
returns-clause-point g c =
    IsPartitionPoint-from_clause (λ k. is_le (g.K.Ord.cmp k c.args.key.now)) c.args.keys.now c.partition_point.result c.partition_point.ensures.partitioned
    (parted-up_to g.K.Ord.cmp g.met.K.Ord.total c.args.keys.now c.requires c.args.key.now) (λ a r q k. search rules)
