use Rattle.std.proofs.Common.{rules}
use Rattle.std.specs.Ordering.{is_lt}
use Rattle.std.proofs.lemmas.List.Sorted.{IsPartitionPoint-from_clause}
use Rattle.multimap.proofs.Runs.{parted-below}
use Rattle.multimap.proofs.search.count_below.Goals as goal

pub returns-clause-point : goal.returns-clause-point
returns-clause-point g c =
    IsPartitionPoint-from_clause (λ k. is_lt (g.K.Ord.cmp k c.args.key.now)) c.args.keys.now c.partition_point.result c.partition_point.ensures.partitioned
    (parted-below g.K.Ord.cmp g.met.K.Ord.total c.args.keys.now c.requires c.args.key.now) (λ a r q k. search rules)
