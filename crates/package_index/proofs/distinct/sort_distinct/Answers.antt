use Rattle.std.proofs.Common.{sym, ap, subst, ◌∙◌}
use Rattle.std.specs.List.{list_any}
use Rattle.std.specs.List.Sorted.{IsStrictlySortedBy}
use Rattle.std.proofs.lemmas.List.Filters.{dedup_is}
use Rattle.std.proofs.lemmas.List.Kept.{IsStrictlySortedBy-dedup}
use Rattle.std.proofs.lemmas.List.Sorted.{list_any-IsPermutation}
use Rattle.package_index.proofs.Grouping.{any-dedup}
use Rattle.package_index.proofs.distinct.sort_distinct.Goals as goal

pub returns-clause-strictly : goal.returns-clause-strictly
returns-clause-strictly g c =
    subst (IsStrictlySortedBy g.T.Ord.cmp) (sym (dedup_is _ _ _ c.dedup.ensures.filtered)) (IsStrictlySortedBy-dedup g.met.T.Ord.total g.met.T.Ord.matches_eq _ c.in_ok-sort.ensures.sorted)

pub returns-clause-same : goal.returns-clause-same
returns-clause-same g c test alike =
    ap (list_any test) (dedup_is _ _ _ c.dedup.ensures.filtered) ∙ any-dedup g.T.PartialEq.eq test alike c.sort.new.self.items
    ∙ sym (list_any-IsPermutation test _ _ c.sort.ensures.permutation)
