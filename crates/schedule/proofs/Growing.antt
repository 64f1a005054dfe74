-- A graph that goes on from the one that a repository has.
use Rattle.std.proofs.Common.{◌≡◌, ℕ, Bool, true, false, cond, List, [], ◌∷◌, ◌++◌, refl, sym, ap, subst, ◌∙◌, arith}
use Rattle.std.specs.Prelude.{Result}
use mathlib.Core.List.{IsPrefix}
use Rattle.std.proofs.lemmas.List.{append-nil}
use Rattle.osv_prim.specs.declared.oid.CommitRow.{CommitRow}
use Rattle.osv_prim.specs.Graphs.{has, with_row, joined}
use Rattle.commit_graph.specs.declared.fault.GraphFault.{GraphFault}
use Rattle.commit_graph.specs.Extended.{extended}
use Rattle.history.specs.Prefixes.{grows, graph, graph_at}
use Rattle.history.specs.Conditions.{IsOfVersion}
use Rattle.history.proofs.Entries.{front-trans}
use Rattle.history.proofs.Conditions.{graph_at-now}
use Rattle.book_model.specs.State.{State}
use Rattle.schedule.specs.Machine.{grown_graph}

row_front : (b : Bool) (g : List CommitRow) (r : CommitRow) → IsPrefix g (cond b g (g ++ r ∷ []))
row_front true g r = ([], append-nil g)
row_front false g r = (r ∷ [], refl)

joined_front : (rows g : List CommitRow) → IsPrefix g (joined g rows)
joined_front [] g = ([], append-nil g)
joined_front (r ∷ rows) g = front-trans g (with_row g r) (joined (with_row g r) rows) (row_front (has g r.oid) g r) (joined_front rows (with_row g r))

pub going-on : (s : State) (key : List ℕ) (version : ℕ) (g rows larger : List CommitRow) → version ≡ grows s.history key → g ≡ graph s.history key → larger ≡ joined g rows → IsOfVersion key version larger s.history
going-on s key version g rows larger count here is =
    let at : g ≡ graph_at version s.history key = here ∙ sym (graph_at-now s.history key) ∙ ap (λ (n : ℕ). graph_at n s.history key) (sym count) in
    record {
      there = omega (arith, count);
      begins = subst (λ (x : List CommitRow). IsPrefix x larger) at (subst (λ (x : List CommitRow). IsPrefix g x) (sym is) (joined_front rows g));
    }

-- what the rows come to over the repository's graph
pub grown-as : (s : State) (key : List ℕ) (most : ℕ) (g rows : List CommitRow) (r : Result (List CommitRow) GraphFault) → g ≡ graph s.history key → most ≡ s.settings.commits → extended g most rows ≡ r → grown_graph s key rows ≡ r
grown-as s key most g rows r here same is =
    ap (λ (x : List CommitRow). extended x s.settings.commits rows) (sym here) ∙ ap (λ (n : ℕ). extended g n rows) (sym same) ∙ is
