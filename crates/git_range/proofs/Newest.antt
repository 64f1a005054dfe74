-- What is said of a commit by its row and by what is said of its parents, along the rows from the newest to the oldest.
use Rattle.std.proofs.Common.{◌≡◌, ℕ, zero, suc, ◌<◌, ◌≤◌, inl, inr, Bool, true, false, cond, List, [], ◌∷◌, length, reverse, take, get_or, Contains, sym, ap, subst, ◌∙◌, arith}
use Rattle.std.proofs.Math.Seq.{take-suc, take-length}
use Rattle.std.specs.Str.{bytes_eq}
use Rattle.std.proofs.lemmas.Bool.{cases_Bool, cases_eq, cond-true, cond-false, false≢true, false_from_ne_true}
use Rattle.std.proofs.lemmas.List.{reverse-append}
use Rattle.std.proofs.lemmas.List.Elements.{All-contains}
use Rattle.std.proofs.lemmas.Slice.Eq.{bytes_eq-Decides}
use Rattle.osv_prim.specs.Graphs.{ids, id_at, parents_at, IsLegal}
use Rattle.osv_prim.specs.declared.oid.CommitRow.{CommitRow}
use Rattle.git_range.proofs.Ids.{one_row, earlier_row, id_of_row, parents_of_row, some_row, at_row}

-- the row's commit and parents
pub row_id : (graph : List CommitRow) (k : ℕ) (lt : k < length graph) → id_at graph k ≡ (some_row graph k lt).oid
row_id graph k lt = id_of_row graph k (some_row graph k lt) lt (at_row graph k lt)

pub row_parents : (graph : List CommitRow) (k : ℕ) (lt : k < length graph) → parents_at graph k ≡ (some_row graph k lt).parents
row_parents graph k lt = parents_of_row graph k (some_row graph k lt) lt (at_row graph k lt)

module _ (graph : List CommitRow) (legal : IsLegal graph) where
  pub parent_row : (k : ℕ) (lt : k < length graph) (p : List ℕ) → Contains (some_row graph k lt).parents p → (j : ℕ) × (j < k) × (id_at graph j ≡ p)
  parent_row k lt p c =
      earlier_row graph legal p k lt
      (All-contains (Contains (take k (ids graph))) (parents_at graph k) p (legal.earlier k lt) (subst (λ (ps : List (List ℕ)). Contains ps p) (sym (row_parents graph k lt)) c))

  module _ (says : List ℕ → CommitRow → (List ℕ → Bool) → Bool) (along : List CommitRow → List ℕ → Bool) (none : (c : List ℕ) → along [] c ≡ false)
      (next : (r : CommitRow) (older : List CommitRow) (c : List ℕ) → along (r ∷ older) c ≡ cond (bytes_eq c r.oid) (says c r (along older)) (along older c))
      (by_parents : (c : List ℕ) (r : CommitRow) (f g : List ℕ → Bool) → ((p : List ℕ) → Contains r.parents p → f p ≡ g p) → says c r f ≡ says c r g) where
    -- what the first n rows say
    abbrev pub upto : ℕ → List ℕ → Bool
    upto n = along (reverse (take n graph))

    one_more : (n : ℕ) (lt : n < length graph) → reverse (take (suc n) graph) ≡ some_row graph n lt ∷ reverse (take n graph)
    one_more n lt =
        let r = some_row graph n lt in
        ap reverse (take-suc graph n r lt) ∙ reverse-append (take n graph) (get_or graph n r ∷ []) ∙ ap (λ (x : CommitRow). x ∷ reverse (take n graph)) (at_row graph n lt)

    upto-suc : (n : ℕ) (lt : n < length graph) (c : List ℕ) → upto (suc n) c ≡ cond (bytes_eq c (some_row graph n lt).oid) (says c (some_row graph n lt) (upto n)) (upto n c)
    upto-suc n lt c = ap (λ (rows : List CommitRow). along rows c) (one_more n lt) ∙ next (some_row graph n lt) (reverse (take n graph)) c

    here : (n : ℕ) (lt : n < length graph) → upto (suc n) (id_at graph n) ≡ says (id_at graph n) (some_row graph n lt) (upto n)
    here n lt = upto-suc n lt (id_at graph n) ∙ cond-true _ _ _ ((bytes_eq-Decides (id_at graph n) (some_row graph n lt).oid).1 (row_id graph n lt))

    elsewhere : (n : ℕ) (lt : n < length graph) (c : List ℕ) → bytes_eq c (some_row graph n lt).oid ≡ false → upto (suc n) c ≡ upto n c
    elsewhere n lt c other = upto-suc n lt c ∙ cond-false _ _ _ other

    -- later rows say nothing of a commit: what the first rows say of it, the rows up to its own say
    pub stays : (n k : ℕ) → k < n → n ≤ length graph → upto n (id_at graph k) ≡ upto (suc k) (id_at graph k)
    stays zero k lt le = absurd (omega arith)
    stays (suc n) k lt le =
        elim (cases_eq k n) [
          | inl same ↦ ap (λ (m : ℕ). upto (suc m) (id_at graph k)) (sym same)
          | inr other ↦
              let n_lt : n < length graph = omega arith in
              let k_lt : k < length graph = omega arith in
              elsewhere n n_lt (id_at graph k)
              (false_from_ne_true _ (λ h. other (one_row graph legal k n k_lt n_lt ((bytes_eq-Decides (id_at graph k) (some_row graph n n_lt).oid).0 h ∙ sym (row_id graph n n_lt)))))
              ∙ stays n k (omega arith) (omega arith)
        ]

    whole : (c : List ℕ) → upto (length graph) c ≡ along (reverse graph) c
    whole c = ap (λ (rows : List CommitRow). along (reverse rows) c) (take-length graph)

    -- what all rows say of a commit, the rows up to its own say
    pub at_once : (k : ℕ) → k < length graph → along (reverse graph) (id_at graph k) ≡ upto (suc k) (id_at graph k)
    at_once k lt = sym (whole (id_at graph k)) ∙ stays (length graph) k lt (omega arith)

    -- what all rows say of a commit, its row says of it by what all rows say of its parents
    pub row_says : (k : ℕ) (lt : k < length graph) → along (reverse graph) (id_at graph k) ≡ says (id_at graph k) (some_row graph k lt) (along (reverse graph))
    row_says k lt = at_once k lt ∙ here k lt ∙ by_parents (id_at graph k) (some_row graph k lt) (upto k) (along (reverse graph)) same
      where
        same : (p : List ℕ) → Contains (some_row graph k lt).parents p → upto k p ≡ along (reverse graph) p
        same p c =
            let j = parent_row k lt p c in
            let j_lt : j.0 < length graph = omega (arith, j.1) in
            subst (λ (x : List ℕ). upto k x ≡ along (reverse graph) x) j.2 (stays k j.0 j.1 (omega arith) ∙ sym (at_once j.0 j_lt))

    is_among : (n : ℕ) (c : List ℕ) → n ≤ length graph → upto n c ≡ true → (k : ℕ) × (k < n) × (id_at graph k ≡ c)
    is_among zero c le h = absurd (false≢true (sym (none c) ∙ h))
    is_among (suc n) c le h =
        let lt : n < length graph = omega arith in
        elim (cases_Bool (bytes_eq c (some_row graph n lt).oid)) [
          | inl same ↦ (n, omega arith, row_id graph n lt ∙ sym ((bytes_eq-Decides c (some_row graph n lt).oid).0 same))
          | inr other ↦ let before = is_among n c (omega arith) (sym (elsewhere n lt c other) ∙ h) in (before.0, omega (arith, before.1), before.2)
        ]

    -- where something is said of a commit, it has a row
    pub its_row : (c : List ℕ) → along (reverse graph) c ≡ true → (k : ℕ) × (k < length graph) × (id_at graph k ≡ c)
    its_row c h = is_among (length graph) c (omega arith) (whole c ∙ h)
