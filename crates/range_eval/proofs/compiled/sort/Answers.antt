use Rattle.std.proofs.Common.{rules}
use Rattle.std.specs.Ordering.{is_lt}
use Rattle.std.proofs.lemmas.List.Sorted.{answers_always, ranks_by}
use Rattle.osv_prim.specs.Ranges.{event_cmp}
use Rattle.range_eval.proofs.Orders.{event_total}
use Rattle.range_eval.proofs.compiled.sort.Goals as goal

pub returns-clause-sorted : goal.returns-clause-sorted
returns-clause-sorted g c =
    c.sort_unstable_by.ensures.sorted (λ a b. is_lt (event_cmp g.T.Ord.cmp a b)) (ranks_by (event_total g.T.Ord.cmp g.met.T.Ord.total) (λ e. e)) (answers_always _ _ _ (λ f a r q k. search rules))
