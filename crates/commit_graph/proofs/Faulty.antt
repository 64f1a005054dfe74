-- The faults of rows, one row after another.
use Rattle.std.proofs.Common.{◌≡◌, ℕ, ◌+◌, ◌<◌, Bool, true, false, not, if◌then◌else◌, leb, List, length, take, get_or, slice_get, Option, Some, None, refl, sym, ap, subst, ◌∙◌, arith, below_more, ◌++◌, [], ◌∷◌, length-append}
use Rattle.std.specs.List.{list_any, list_all}
use Rattle.std.specs.Option.{option_map_or}
use Rattle.std.specs.Str.{bytes_eq}
use Rattle.std.proofs.lemmas.List.{get_or_at, take_at}
use Rattle.std.proofs.lemmas.List.Sums.{fold_more}
use Rattle.std.proofs.lemmas.Option.{slice_get_read, slice_get_within, get_or_from_slice_get}
use Rattle.osv_prim.specs.declared.oid.CommitRow.{CommitRow}
use Rattle.osv_prim.specs.Graphs.{has, number_of, parents_at, with_row, joined}
use Rattle.commit_graph.specs.declared.fault.GraphFault.{GraphFault}
use Rattle.commit_graph.specs.declared.fault.GraphFault.TheVariants as faults
use Rattle.commit_graph.specs.Faults.{row_of, same_ids, fault_of_known, fault_of_new, fault_of, fault_at, IsFirstFault}
use Rattle.commit_graph.proofs.Rows.{parents_at-row}

-- a row whose commit is there
known : (graph : List CommitRow) (most index : ℕ) (r : CommitRow) (n : ℕ) (there : CommitRow) → number_of graph r.oid ≡ Some n → slice_get graph n ≡ Some there
    → fault_of graph most index r ≡ fault_of_known index r there.parents
known graph most index r n there at row =
    ap (λ (o : Option ℕ). option_map_or (λ k. fault_of_known index r (parents_at graph k)) o (fault_of_new graph most index r)) at
    ∙ ap (fault_of_known index r) (parents_at-row graph n there (slice_get_within graph n there row) ∙ ap (λ (x : CommitRow). x.parents) (get_or_from_slice_get graph n there there row))

pub passed_over : (graph : List CommitRow) (most index : ℕ) (r : CommitRow) (n : ℕ) (there : CommitRow) → number_of graph r.oid ≡ Some n → slice_get graph n ≡ Some there
    → same_ids there.parents r.parents ≡ true → fault_of graph most index r ≡ None
passed_over graph most index r n there at row same =
    known graph most index r n there at row ∙ ap (λ (b : Bool). if b then None else Some (faults.ParentsDiffer index)) same

pub differing : (graph : List CommitRow) (most index : ℕ) (r : CommitRow) (n : ℕ) (there : CommitRow) → number_of graph r.oid ≡ Some n → slice_get graph n ≡ Some there
    → same_ids there.parents r.parents ≡ false → fault_of graph most index r ≡ Some (faults.ParentsDiffer index)
differing graph most index r n there at row same =
    known graph most index r n there at row ∙ ap (λ (b : Bool). if b then None else Some (faults.ParentsDiffer index)) same

-- ---- the index of a fault

row_known : (b : Bool) (index : ℕ) (e : GraphFault) → (if b then None else Some (faults.ParentsDiffer index)) ≡ Some e → row_of e ≡ index
row_known true index e h = absurd cc
row_known false index e h = let is : faults.ParentsDiffer index ≡ e = cc in ap row_of (sym is)

row_new : (itself unknown full : Bool) (index : ℕ) (e : GraphFault)
    → (if itself then Some (faults.SelfParent index) else (if unknown then Some (faults.UnknownParent index) else (if full then Some (faults.TooMany index) else None))) ≡ Some e
    → row_of e ≡ index
row_new true unknown full index e h = let is : faults.SelfParent index ≡ e = cc in ap row_of (sym is)
row_new false true full index e h = let is : faults.UnknownParent index ≡ e = cc in ap row_of (sym is)
row_new false false true index e h = let is : faults.TooMany index ≡ e = cc in ap row_of (sym is)
row_new false false false index e h = absurd cc

row_of_fault : (graph : List CommitRow) (most index : ℕ) (r : CommitRow) (e : GraphFault) → fault_of graph most index r ≡ Some e → row_of e ≡ index
row_of_fault graph most index r e = by (number_of graph r.oid)
  where
    by : (o : Option ℕ) → option_map_or (λ n. fault_of_known index r (parents_at graph n)) o (fault_of_new graph most index r) ≡ Some e → row_of e ≡ index
    by (Some n) h = row_known (same_ids (parents_at graph n) r.parents) index e h
    by None h = row_new (list_any (bytes_eq r.oid) r.parents) (not (list_all (has graph) r.parents)) (leb most (length graph)) index e h

-- ---- one row after another

module _ (graph : List CommitRow) (most : ℕ) (rows : List CommitRow) (index : ℕ) (r : CommitRow) (lt : index < length rows) (at : r ≡ get_or rows index r) where
  here : fault_at graph most rows index ≡ fault_of (joined graph (take index rows)) most index r
  here = ap (λ (o : Option CommitRow). option_map_or (λ x. fault_of (joined graph (take index rows)) most index x) o None) (slice_get_read rows (length rows) index r refl lt at)

  pub joined_more : (so_far : List CommitRow) → so_far ≡ joined graph (take index rows) → with_row so_far r ≡ joined graph (take (index + 1) rows)
  joined_more so_far e =
      ap (λ (g : List CommitRow). with_row g r) e ∙ ap (with_row (joined graph (take index rows))) at ∙ sym (fold_more with_row graph rows index r lt)

  pub still_sound : (so_far : List CommitRow) → so_far ≡ joined graph (take index rows) → fault_of so_far most index r ≡ None
      → ((k : ℕ) → k < index → fault_at graph most rows k ≡ None) → (k : ℕ) → k < index + 1 → fault_at graph most rows k ≡ None
  still_sound so_far e none before =
      below_more (λ k. fault_at graph most rows k ≡ None) index before (here ∙ ap (λ (g : List CommitRow). fault_of g most index r) (sym e) ∙ none)

  pub first_fault : (so_far : List CommitRow) (e : GraphFault) → so_far ≡ joined graph (take index rows) → fault_of so_far most index r ≡ Some e
      → ((k : ℕ) → k < index → fault_at graph most rows k ≡ None) → IsFirstFault graph most rows e
  first_fault so_far e is fault before =
      let found : fault_of (joined graph (take index rows)) most index r ≡ Some e = ap (λ (g : List CommitRow). fault_of g most index r) (sym is) ∙ fault in
      let named = row_of_fault (joined graph (take index rows)) most index r e found in
      record {
        there = omega arith;
        found = subst (λ (k : ℕ). fault_at graph most rows k ≡ Some e) (sym named) (here ∙ found);
        first = λ k k_lt. before k (omega arith);
      }

-- ---- rows that are given away one after another

pub joined_push : (graph : List CommitRow) (rows : List CommitRow) (r : CommitRow) → joined graph (rows ++ r ∷ []) ≡ with_row (joined graph rows) r
joined_push graph [] r = refl
joined_push graph (x ∷ rows) r = joined_push (with_row graph x) rows r

module _ (graph : List CommitRow) (most : ℕ) (rows front : List CommitRow) (r : CommitRow) (rest : List CommitRow) (index : ℕ) (split : front ++ r ∷ rest ≡ rows) (count : index ≡ length front)
    (so_far : List CommitRow) (is : so_far ≡ joined graph front) (before : (k : ℕ) → k < index → fault_at graph most rows k ≡ None) where
  index_lt : index < length rows
  index_lt = omega (arith, ap (λ (xs : List CommitRow). length xs) split, length-append front (r ∷ rest))

  index_at : r ≡ get_or rows index r
  index_at = sym (ap (λ (xs : List CommitRow). get_or xs index r) (sym split) ∙ get_or_at front r rest r index (sym count))

  index_is : so_far ≡ joined graph (take index rows)
  index_is = is ∙ ap (joined graph) (sym (ap (take index) (sym split) ∙ take_at front (r ∷ rest) index (sym count)))

  pub given_sound : fault_of so_far most index r ≡ None → (k : ℕ) → k < index + 1 → fault_at graph most rows k ≡ None
  given_sound none = still_sound graph most rows index r index_lt index_at so_far index_is none before

  pub given_fault : (e : GraphFault) → fault_of so_far most index r ≡ Some e → IsFirstFault graph most rows e
  given_fault e fault = first_fault graph most rows index r index_lt index_at so_far e index_is fault before
