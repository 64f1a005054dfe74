use Rattle.std.proofs.Common.{◌≡◌, ℕ, List, Global, [], ◌∷◌, ◌++◌, take, ap, subst, ◌∙◌}
use Rattle.std.specs.declared.sync.Arc.{Arc}
use Rattle.commit_graph.specs.Segments.{Part, seen, rows_of, numbers_of}
use Rattle.commit_graph.proofs.Growth.{IsGraph-same}
use Rattle.commit_graph.proofs.Parts.{sealed_same}
use Rattle.commit_graph.proofs.graph.Graph.sealed.Goals as goal

pub invariant_of-result : goal.invariant_of-result
invariant_of-result c =
    let from : ℕ = c.small_from-from.result.0 in
    let is = c.in_ok-push.ensures.items ∙ ap (λ (xs : List (Arc Part Global)). xs ++ c.in_ok-new.field-0 ∷ []) c.truncate.ensures.items in
    IsGraph-same (rows_of (seen c.self.inside.segments.items) c.self.inside.fresh) _ (numbers_of (seen c.self.inside.segments.items) c.self.inside.fresh) _ _ _
    (sealed_same (λ (p : Part). p.rows) c.self.inside.segments.items c.push.new.self.items from c.in_ok-new.field-0 c.in_ok-last.last c.self.inside.fresh.rows c.in_ok-with_capacity.field-0.rows
    is c.in_ok-new.ensures.ok c.in_ok-with_capacity.ensures.rows
    (subst (λ (xs : List (Arc Part Global)). rows_of (take from (seen xs)) c.in_ok-last.last ≡ rows_of (seen xs) c.self.inside.fresh) c.as_slice-2.ensures.value c.in_ok-last.ensures.rows))
    (sealed_same (λ (p : Part). p.numbers) c.self.inside.segments.items c.push.new.self.items from c.in_ok-new.field-0 c.in_ok-last.last c.self.inside.fresh.numbers c.in_ok-with_capacity.field-0.numbers
    is c.in_ok-new.ensures.ok c.in_ok-with_capacity.ensures.numbers
    (subst (λ (xs : List (Arc Part Global)). numbers_of (take from (seen xs)) c.in_ok-last.last ≡ numbers_of (seen xs) c.self.inside.fresh) c.as_slice-2.ensures.value c.in_ok-last.ensures.numbers))
    c.self.invariant

pub returns : goal.returns
returns c =
    let from : ℕ = c.small_from-from.result.0 in
    let is = c.in_ok-push.ensures.items ∙ ap (λ (xs : List (Arc Part Global)). xs ++ c.in_ok-new.field-0 ∷ []) c.truncate.ensures.items in
    sealed_same (λ (p : Part). p.rows) c.self.inside.segments.items c.push.new.self.items from c.in_ok-new.field-0 c.in_ok-last.last c.self.inside.fresh.rows c.in_ok-with_capacity.field-0.rows
    is c.in_ok-new.ensures.ok c.in_ok-with_capacity.ensures.rows
    (subst (λ (xs : List (Arc Part Global)). rows_of (take from (seen xs)) c.in_ok-last.last ≡ rows_of (seen xs) c.self.inside.fresh) c.as_slice-2.ensures.value c.in_ok-last.ensures.rows)
    ∙ c.self.view_is
