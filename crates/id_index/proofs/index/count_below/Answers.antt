use Rattle.std.proofs.Common.{rules}
use Rattle.std.specs.Prelude.{nat_lt}
use Rattle.std.proofs.lemmas.List.Sorted.{IsPartitionPoint-from_clause}
use Rattle.id_index.proofs.Heads.{passed_below}
use Rattle.id_index.proofs.index.count_below.Goals as goal

pub returns-clause-point : goal.returns-clause-point
returns-clause-point c = λ rises.
    IsPartitionPoint-from_clause (λ h. nat_lt h c.args.number) c.args.heads.now c.partition_point.result c.partition_point.ensures.partitioned
    (passed_below c.args.number c.args.heads.now rises) (λ a r q k. search rules)
