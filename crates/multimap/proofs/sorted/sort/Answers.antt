use Rattle.std.proofs.Common.{rules, sym}
use Rattle.std.specs.Ordering.{is_lt}
use Rattle.std.proofs.lemmas.List.Sorted.{answers_always, ranks_by, list_any-IsPermutation}
use Rattle.multimap.proofs.Sorting.{values-stable}
use Rattle.multimap.proofs.sorted.sort.Goals as goal

pub returns-clause-sorted : goal.returns-clause-sorted
returns-clause-sorted g c =
    c.in_ok-sort_by.ensures.sorted (λ a b. is_lt (g.K.Ord.cmp a.0 b.0)) (ranks_by g.met.K.Ord.total (λ e. e.0)) (answers_always _ _ _ (λ f a r q k. search rules))

pub returns-clause-same : goal.returns-clause-same
returns-clause-same g c =
    values-stable g.K.Ord.cmp g.met.K.Ord.total c.args.entries.now.items c.sort_by.new.self.items c.sort_by.ensures.permutation
    (c.sort_by.ensures.stable (λ a b. is_lt (g.K.Ord.cmp a.0 b.0)) (ranks_by g.met.K.Ord.total (λ e. e.0)) (answers_always _ _ _ (λ f a r q k. search rules)))

pub returns-clause-any : goal.returns-clause-any
returns-clause-any g c test = sym (list_any-IsPermutation test _ _ c.sort_by.ensures.permutation)
