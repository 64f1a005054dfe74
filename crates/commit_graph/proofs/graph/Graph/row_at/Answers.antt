use Rattle.std.proofs.Common.{◌≡◌, List, Global, Some, length, arith, sym, ap, subst, ◌∙◌, refl}
use Rattle.std.specs.Prelude.{slice_get}
use Rattle.std.specs.declared.sync.Arc.{Arc}
use Rattle.std.proofs.lemmas.Option.{slice_get_read, get_or_from_slice_get}
use Rattle.osv_prim.specs.declared.oid.CommitRow.{CommitRow}
use Rattle.commit_graph.specs.Segments.{Part, seen, rows_of}
use Rattle.commit_graph.proofs.graph.Graph.row_at.Goals as goal

pub returns-clause-row : goal.returns-clause-row
returns-clause-row g c =
    let rows = rows_of (seen c.as_slice.result.now) c.self.inside.fresh in
    let same : rows ≡ c.args.self.now = ap (λ (xs : List (Arc Part Global)). rows_of (seen xs) c.self.inside.fresh) c.as_slice.ensures.value ∙ c.self.view_is in
    subst (λ (g : List CommitRow). slice_get g c.args.number ≡ Some c.row.result.now) same
    (slice_get_read rows (length rows) c.args.number c.row.result.now refl (omega (arith, c.requires, ap (λ (g : List CommitRow). length g) same))
    (sym (c.place_of-index.ensures.row c.row.result.now
    ∙ get_or_from_slice_get c.place_of-index.result.0.now.rows c.place_of-index.result.1 c.row.result.now c.row.result.now c.row.ensures)))
