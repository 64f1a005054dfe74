-- Ids that differ, row after row.
use Rattle.std.proofs.Common.{◌≡◌, ◌≢◌, ℕ, ◌<◌, false, List, [], length, take, All, AllPairs, sym, subst, arith}
use Rattle.std.specs.Str.{bytes_eq}
use Rattle.std.proofs.lemmas.Bool.{false_from_ne_true}
use Rattle.std.proofs.lemmas.List.{get_or-take, take-map, length-take-le}
use Rattle.std.proofs.lemmas.List.Elements.{All-from_get_or}
use Rattle.std.proofs.lemmas.List.Folds.{list_any_none}
use Rattle.std.proofs.lemmas.Slice.Eq.{bytes_eq-Decides}
use Rattle.osv_prim.specs.declared.oid.CommitRow.{CommitRow}
use Rattle.osv_prim.specs.Graphs.{ids, has, id_at}
use Rattle.commit_graph.proofs.Rows.{length-ids}

module _ (graph : List CommitRow) (differ : AllPairs (λ a b. a ≢ b) (ids graph)) (k : ℕ) (lt : k < length graph) where
  before_differs : (i : ℕ) → i < k → bytes_eq (id_at graph k) (id_at graph i) ≡ false
  before_differs i i_lt = false_from_ne_true (bytes_eq (id_at graph k) (id_at graph i))
      (λ h. differ i k [] i_lt (omega (arith, length-ids graph)) (sym ((bytes_eq-Decides (id_at graph k) (id_at graph i)).0 h)))

  -- no earlier row has a row's id
  pub absent_before : has (take k graph) (id_at graph k) ≡ false
  absent_before =
      list_any_none (bytes_eq (id_at graph k)) (ids (take k graph))
      (subst (λ (xs : List (List ℕ)). All (λ x. bytes_eq (id_at graph k) x ≡ false) xs) (take-map (λ (r : CommitRow). r.oid) k graph)
      (All-from_get_or (λ x. bytes_eq (id_at graph k) x ≡ false) (take k (ids graph)) []
      (λ i i_lt.
      let within : i < k = omega (arith, length-take-le k (ids graph) (omega (arith, length-ids graph))) in
      subst (λ (x : List ℕ). bytes_eq (id_at graph k) x ≡ false) (sym (get_or-take k (ids graph) i [] within)) (before_differs i within))))
