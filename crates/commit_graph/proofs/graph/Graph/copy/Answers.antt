use Rattle.std.proofs.Common.{◌≢◌, List, [], ◌++◌, AllPairs, sym, subst}
use Rattle.std.specs.List.{flat_map}
use Rattle.std.proofs.lemmas.List.{append-nil}
use Rattle.osv_prim.specs.declared.oid.CommitRow.{CommitRow}
use Rattle.osv_prim.specs.Graphs.{ids}
use Rattle.commit_graph.specs.Segments.{Part, seen}
use Rattle.commit_graph.proofs.Parts.{differ_last}
use Rattle.commit_graph.proofs.graph.Graph.copy.Goals as goal

pub with_rows-requires : goal.with_rows-requires
with_rows-requires c =
    let before = flat_map (λ (p : Part). p.rows) (seen c.self.inside.segments.items) in
    subst (λ (xs : List CommitRow). AllPairs (λ a b. a ≢ b) (ids (xs ++ c.self.inside.fresh.rows))) (sym c.in_ok-fresh.ensures.rows)
    (differ_last before [] c.self.inside.fresh.rows before (append-nil before) c.self.invariant.legal.differ)
