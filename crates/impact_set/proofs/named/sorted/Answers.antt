use Rattle.std.proofs.Common.{ℕ, ◌<◌, List, All, eqb, sym, ap, subst, ◌∙◌}
use Rattle.std.specs.List.Sorted.{IsNonDecreasing}
use Rattle.std.proofs.lemmas.List.Sorted.{list_any-IsPermutation, All-permutation, IsNonDecreasingBy-from_sort}
use Rattle.impact_set.specs.Passing.{has_number}
use Rattle.impact_set.proofs.named.sorted.Goals as goal

pub returns-clause-same : goal.returns-clause-same
returns-clause-same c n = ap (λ (xs : List ℕ). has_number xs n) c.from_vec.ensures ∙ sym (list_any-IsPermutation (λ x. eqb x n) _ _ c.sort_unstable.ensures.permutation)

pub returns-clause-within : goal.returns-clause-within
returns-clause-within c end within = subst (All (λ (k : ℕ). k < end)) (sym c.from_vec.ensures) (All-permutation (λ (k : ℕ). k < end) _ _ c.sort_unstable.ensures.permutation within)

pub returns-clause-ascending : goal.returns-clause-ascending
returns-clause-ascending c = subst IsNonDecreasing (sym c.from_vec.ensures) (IsNonDecreasingBy-from_sort (λ x. x) _ c.sort_unstable.ensures.sorted)
