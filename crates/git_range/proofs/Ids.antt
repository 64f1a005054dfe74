-- The rows of a legal graph by their ids, and parents by their rows.
use Rattle.std.proofs.Common.{◌≡◌, ℕ, ◌<◌, inl, inr, List, [], length, map, take, get_or, Contains, sym, ap, subst, ◌∙◌, arith}
use Rattle.std.proofs.lemmas.Bool.{cases_order}
use Rattle.std.proofs.lemmas.List.{length-map, length-take, get_or-map, get_or-take, get_or_default}
use Rattle.std.proofs.lemmas.List.Elements.{All-contains, Contains-get_or}
use Rattle.osv_prim.specs.declared.oid.CommitRow.{CommitRow}
use Rattle.osv_prim.specs.Graphs.{ids, id_at, parents_at, IsLegal, IsParent, IsRoot}
use Rattle.commit_graph.proofs.Rows.{length-ids, id_at-row, parents_at-row}

pub id_of_row : (graph : List CommitRow) (k : ℕ) (r : CommitRow) → k < length graph → get_or graph k r ≡ r → id_at graph k ≡ r.oid
id_of_row graph k r lt at = id_at-row graph k r lt ∙ ap (λ (x : CommitRow). x.oid) at

pub parents_of_row : (graph : List CommitRow) (k : ℕ) (r : CommitRow) → k < length graph → get_or graph k r ≡ r → parents_at graph k ≡ r.parents
parents_of_row graph k r lt at = parents_at-row graph k r lt ∙ ap (λ (x : CommitRow). x.parents) at

-- two rows: a commit's, and its parent's
pub record Related (graph : List CommitRow) (p c : List ℕ) : Type 0 where
  pub parent : ℕ
  pub child : ℕ
  pub earlier : parent < child
  pub within : child < length graph
  pub parent_id : id_at graph parent ≡ p
  pub child_id : id_at graph child ≡ c
  pub named : Contains (parents_at graph child) p

module _ (graph : List CommitRow) (legal : IsLegal graph) where
  pub one_row : (n m : ℕ) → n < length graph → m < length graph → id_at graph n ≡ id_at graph m → n ≡ m
  one_row n m p q e =
      elim (cases_order n m) [
        | inl same ↦ same
        | inr (inl lt) ↦ absurd (legal.differ n m [] lt (omega (arith, length-ids graph)) e)
        | inr (inr gt) ↦ absurd (legal.differ m n [] gt (omega (arith, length-ids graph)) (sym e))
      ]

  pub earlier_row : (p : List ℕ) (k : ℕ) → k < length graph → Contains (take k (ids graph)) p → (j : ℕ) × (j < k) × (id_at graph j ≡ p)
  earlier_row p k lt c =
      let below : c.0 < k = omega (arith, c.1, length-take k (ids graph)) in
      (c.0, below, get_or_default (ids graph) c.0 [] p (omega (arith, length-ids graph)) ∙ sym (get_or-take k (ids graph) c.0 p below) ∙ c.2)

  pub related : (p c : List ℕ) → IsParent graph p c → Related graph p c
  related p c found =
      let k = found.0 in
      let r = found.1 in
      let there : Contains (parents_at graph k) p = subst (λ (ps : List (List ℕ)). Contains ps p) (sym (parents_of_row graph k r found.2 found.3)) found.4.1 in
      let before = earlier_row p k found.2 (All-contains (Contains (take k (ids graph))) (parents_at graph k) p (legal.earlier k found.2) there) in
      record {
        parent = before.0;
        child = k;
        earlier = before.1;
        within = found.2;
        parent_id = before.2;
        child_id = id_of_row graph k r found.2 found.3 ∙ found.4.0;
        named = there;
      }

  -- a root's row has no parents
  pub root_parents : (n : ℕ) → n < length graph → IsRoot graph (id_at graph n) → parents_at graph n ≡ []
  root_parents n lt found =
      let k = found.0 in
      let r = found.1 in
      let same : k ≡ n = one_row k n found.2 lt (id_of_row graph k r found.2 found.3 ∙ found.4.0) in
      ap (parents_at graph) (sym same) ∙ parents_of_row graph k r found.2 found.3 ∙ found.4.1

-- ---- from rows to commits

module _ (graph : List CommitRow) (n : ℕ) (lt : n < length graph) where
  pub some_row : CommitRow
  some_row = get_or graph n (record { oid = []; parents = [] })

  pub at_row : get_or graph n some_row ≡ some_row
  unfolding some_row
  at_row = get_or_default graph n (get_or graph n (record { oid = []; parents = [] })) (record { oid = []; parents = [] }) lt

  pub is_root : parents_at graph n ≡ [] → IsRoot graph (id_at graph n)
  is_root none = (n, some_row, lt, at_row, (sym (id_of_row graph n some_row lt at_row), sym (parents_of_row graph n some_row lt at_row) ∙ none))

  pub is_parent : (p : List ℕ) → Contains (parents_at graph n) p → IsParent graph p (id_at graph n)
  is_parent p c =
      (n, some_row, lt, at_row, (sym (id_of_row graph n some_row lt at_row), subst (λ (ps : List (List ℕ)). Contains ps p) (parents_of_row graph n some_row lt at_row) c))

-- ---- parents by their numbers

module _ (graph : List CommitRow) (ns : List ℕ) (ps : List (List ℕ)) (named : map (id_at graph) ns ≡ ps) where
  pub has_parent : (n : ℕ) → Contains ns n → Contains ps (id_at graph n)
  has_parent n c =
      subst (λ (xs : List (List ℕ)). Contains xs (id_at graph n)) named
      (c.0, omega (arith, c.1, length-map ns (id_at graph)), get_or-map (id_at graph) ns c.0 n (id_at graph n) c.1 ∙ ap (id_at graph) c.2)

  pub parent_number : (p : List ℕ) → Contains ps p → (n : ℕ) × Contains ns n × (id_at graph n ≡ p)
  parent_number p c =
      let d = subst (λ (xs : List (List ℕ)). Contains xs p) (sym named) c in
      let lt : d.0 < length ns = omega (arith, d.1, length-map ns (id_at graph)) in
      (get_or ns d.0 0, Contains-get_or ns d.0 0 lt, sym (get_or-map (id_at graph) ns d.0 0 p lt) ∙ d.2)
