use Rattle.std.proofs.Common.{◌≡◌, ◌<◌, ℕ, List, Global, [], length, map, get_or, All, arith, sym, ap, subst, ◌∙◌}
use Rattle.std.specs.declared.sync.Arc.{Arc}
use Rattle.osv_prim.specs.declared.oid.CommitRow.{CommitRow}
use Rattle.osv_prim.specs.Graphs.{id_at, parents_at}
use Rattle.commit_graph.specs.Segments.{Part, seen, rows_of, numbers_of}
use Rattle.commit_graph.proofs.Growth.{linked_at, earlier_at}
use Rattle.commit_graph.proofs.graph.Graph.parents_at.Goals as goal

pub returns-clause-parents : goal.returns-clause-parents
returns-clause-parents g c =
    let rows = rows_of (seen c.self.inside.segments.items) c.self.inside.fresh in
    let numbers = numbers_of (seen c.self.inside.segments.items) c.self.inside.fresh in
    let within : c.args.number < length rows = omega (arith, c.requires, ap (λ (g : List CommitRow). length g) c.self.view_is) in
    let at = c.numbers.ensures ∙ sym (c.place_of-index.ensures.numbers []) ∙ ap (λ (xs : List (Arc Part Global)). get_or (numbers_of (seen xs) c.self.inside.fresh) c.args.number []) c.as_slice.ensures.value in
    ap (λ (ns : List ℕ). map (id_at c.args.self.now) ns) at
    ∙ subst (λ (graph : List CommitRow). map (id_at graph) (get_or numbers c.args.number []) ≡ parents_at graph c.args.number) c.self.view_is
    (linked_at rows numbers c.self.invariant.linked c.args.number within)

pub returns-clause-earlier : goal.returns-clause-earlier
returns-clause-earlier g c =
    let rows = rows_of (seen c.self.inside.segments.items) c.self.inside.fresh in
    let numbers = numbers_of (seen c.self.inside.segments.items) c.self.inside.fresh in
    let within : c.args.number < length rows = omega (arith, c.requires, ap (λ (g : List CommitRow). length g) c.self.view_is) in
    let at = c.numbers.ensures ∙ sym (c.place_of-index.ensures.numbers []) ∙ ap (λ (xs : List (Arc Part Global)). get_or (numbers_of (seen xs) c.self.inside.fresh) c.args.number []) c.as_slice.ensures.value in
    subst (λ (ns : List ℕ). All (λ p. p < c.args.number) ns) (sym at) (earlier_at rows numbers c.self.invariant.linked c.args.number within)
