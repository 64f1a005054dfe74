-- A graph that goes on from the one that a repository has.
use Rattle.std.proofs.Common.{◌≡◌, ℕ, ◌≤◌, Bool, true, false, cond, List, [], ◌∷◌, ◌++◌, refl, sym, ap, subst, ◌∙◌, arith}
use mathlib.Core.List.{IsPrefix}
use Rattle.std.proofs.lemmas.List.{append-nil}
use Rattle.osv_prim.specs.declared.oid.CommitRow.{CommitRow}
use Rattle.osv_prim.specs.Graphs.{has, with_row, joined}
use Rattle.history.specs.Entries.{History}
use Rattle.history.specs.Prefixes.{grows, graph, graph_at}
use Rattle.history.specs.Conditions.{IsOfVersion}
use Rattle.history.proofs.Entries.{front-trans}
use Rattle.history.proofs.Conditions.{graph_at-now}
use Rattle.book_model.specs.State.{State}

row_front : (b : Bool) (g : List CommitRow) (r : CommitRow) → IsPrefix g (cond b g (g ++ r ∷ []))
row_front true g r = ([], append-nil g)
row_front false g r = (r ∷ [], refl)

joined_front : (rows g : List CommitRow) → IsPrefix g (joined g rows)
joined_front [] g = ([], append-nil g)
joined_front (r ∷ rows) g = front-trans g (with_row g r) (joined (with_row g r) rows) (row_front (has g r.oid) g r) (joined_front rows (with_row g r))

pub going-on : (key : List ℕ) (version : ℕ) (g rows larger : List CommitRow) (found left : State) (front : History)
    → version ≡ grows found.history key → g ≡ graph found.history key → left ≡ found → front ≡ left.history → larger ≡ joined g rows → IsOfVersion key version larger front
going-on key version g rows larger found left front count here same known is =
    let at : g ≡ graph_at version found.history key = here ∙ sym (graph_at-now found.history key) ∙ ap (λ (n : ℕ). graph_at n found.history key) (sym count) in
    subst (λ (h : History). IsOfVersion key version larger h) (sym (known ∙ ap (λ (s : State). s.history) same))
    (record {
      there = omega (arith, count);
      begins = subst (λ (x : List CommitRow). IsPrefix x larger) at (subst (λ (x : List CommitRow). IsPrefix g x) (sym is) (joined_front rows g));
    })
