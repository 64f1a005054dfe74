-- Marking the parents of one row.
use Rattle.std.proofs.Common.{◌≡◌, ℕ, ◌<◌, ◌≤◌, inl, inr, Bool, false, true, List, length, map, get_or, All, Contains, subst, arith}
use Rattle.std.proofs.lemmas.List.Elements.{All-contains}
use Rattle.osv_prim.specs.declared.oid.CommitRow.{CommitRow}
use Rattle.osv_prim.specs.Graphs.{id_at, parents_at, IsLegal, IsParent}
use Rattle.git_range.proofs.Ids.{related, one_row, parent_number}
use Rattle.git_range.proofs.Marking.{IsMarked, now_marked, why_marked}

module _ (at : ℕ) (ns : List ℕ) (earlier : All (λ p. p < at) ns) where
  -- a parent's row comes earlier
  pub below : (n : ℕ) → Contains ns n → n < at
  below n c = All-contains (λ p. p < at) ns n earlier c

  -- a mark of the row, or of a later one, is an old one
  pub was_marked : (marks new : List Bool) → IsMarked ns marks new → (n : ℕ) → at ≤ n → get_or new n false ≡ true → get_or marks n false ≡ true
  was_marked marks new marked n le h =
      elim (why_marked ns marks new marked n h) [
        | inl before ↦ before
        | inr c ↦ absurd (omega (arith, below n c))
      ]

  -- each parent of the row is marked
  pub parent_marked : (graph : List CommitRow) → IsLegal graph → at < length graph → map (id_at graph) ns ≡ parents_at graph at → (marks new : List Bool) → IsMarked ns marks new
      → (m : ℕ) → m < length graph → IsParent graph (id_at graph m) (id_at graph at) → get_or new m false ≡ true
  parent_marked graph legal within named marks new marked m lt parent =
      let r = related graph legal (id_at graph m) (id_at graph at) parent in
      let same : r.child ≡ at = one_row graph legal r.child at r.within within r.child_id in
      let p = parent_number graph ns (parents_at graph at) named (id_at graph m) (subst (λ (k : ℕ). Contains (parents_at graph k) (id_at graph m)) same r.named) in
      let is : p.0 ≡ m = one_row graph legal p.0 m (omega (arith, below p.0 p.1, within)) lt p.2 in
      subst (λ (k : ℕ). get_or new k false ≡ true) is (now_marked ns marks new marked p.0 p.1)
