use Rattle.std.proofs.Common.{◌<◌, ℕ, List, [], ◌∷◌, ◌++◌, length, map, All, arith, sym, ap, subst, ◌∙◌}
use Rattle.std.specs.List.{flat_map}
use Rattle.std.proofs.lemmas.List.{append_assoc, length-map}
use Rattle.osv_prim.specs.declared.oid.CommitRow.{CommitRow}
use Rattle.osv_prim.specs.Graphs.{has, id_at}
use Rattle.commit_graph.specs.Segments.{Part, seen, rows_of, numbers_of}
use Rattle.commit_graph.proofs.Growth.{IsGraph-push, IsGraph-same, weight_of-push}
use Rattle.commit_graph.proofs.Parts.{absent_behind}
use Rattle.commit_graph.proofs.graph.Graph.with_row.Goals as goal

pub with_row-requires : goal.with_row-requires
with_row-requires c =
    absent_behind (flat_map (λ (p : Part). p.rows) (seen c.self.inside.segments.items)) c.self.inside.fresh.rows c.args.row.oid
    (ap (λ (g : List CommitRow). has g c.args.row.oid) c.self.view_is ∙ c.requires.absent)

pub invariant_of-result : goal.invariant_of-result
invariant_of-result c =
    let before = flat_map (λ (p : Part). p.rows) (seen c.self.inside.segments.items) in
    let numbers_before = flat_map (λ (p : Part). p.numbers) (seen c.self.inside.segments.items) in
    let rows = rows_of (seen c.self.inside.segments.items) c.self.inside.fresh in
    let numbers = numbers_of (seen c.self.inside.segments.items) c.self.inside.fresh in
    IsGraph-same (rows ++ c.args.row ∷ []) _ (numbers ++ c.args.numbers.now ∷ []) _ _ _
    (ap (λ xs. before ++ xs) c.in_ok-with_row.ensures.rows ∙ sym (append_assoc before c.self.inside.fresh.rows (c.args.row ∷ [])))
    (ap (λ xs. numbers_before ++ xs) c.in_ok-with_row.ensures.numbers ∙ sym (append_assoc numbers_before c.self.inside.fresh.numbers (c.args.numbers.now ∷ [])))
    (IsGraph-push rows numbers c.self.inside.count c.self.inside.weight c.args.row c.args.numbers.now c.self.invariant
    (ap (λ (g : List CommitRow). has g c.args.row.oid) c.self.view_is ∙ c.requires.absent)
    (ap (λ (g : List CommitRow). map (id_at g) c.args.numbers.now) c.self.view_is ∙ c.requires.parents)
    (subst (λ (g : List CommitRow). All (λ p. p < length g) c.args.numbers.now) (sym c.self.view_is) c.requires.earlier)
    (omega (arith, ap (λ (g : List CommitRow). length g) c.self.view_is, c.requires.room)) _
    (omega (arith, c.self.invariant.weighed, weight_of-push rows c.args.row, ap (λ (ps : List (List ℕ)). length ps) c.requires.parents, length-map c.args.numbers.now (id_at c.args.self))))
