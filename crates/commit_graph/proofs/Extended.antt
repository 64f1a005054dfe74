-- Rows joined one after another, and the first faulty one.
use Rattle.std.proofs.Common.{◌≡◌, ℕ, zero, suc, ◌+◌, ◌<◌, List, [], ◌∷◌, length, take, slice_get, Option, Some, None, Ok, Err, refl, sym, ap, ◌∙◌, arith}
use Rattle.std.specs.Option.{option_map_or}
use Rattle.osv_prim.specs.Graphs.{with_row, joined}
use Rattle.osv_prim.specs.declared.oid.CommitRow.{CommitRow}
use Rattle.commit_graph.specs.declared.fault.GraphFault.{GraphFault}
use Rattle.commit_graph.specs.Faults.{row_of, fault_of, fault_at, IsSound, IsFirstFault}
use Rattle.commit_graph.specs.Extended.{extended, extended_from}

-- the fault of the i-th of these rows, where the first has index k
fault_in : ℕ → List CommitRow → ℕ → List CommitRow → ℕ → Option GraphFault
fault_in k graph most rows i = option_map_or (λ r. fault_of (joined graph (take i rows)) most (k + i) r) (slice_get rows i) None

module _ (most : ℕ) where
  at_first : (k : ℕ) (graph : List CommitRow) (r : CommitRow) (rows : List CommitRow) → fault_in k graph most (r ∷ rows) 0 ≡ fault_of graph most k r
  unfolding fault_in
  at_first k graph r rows = let e : k + 0 ≡ k = omega arith in ap (λ (n : ℕ). fault_of graph most n r) e

  at_next : (k : ℕ) (graph : List CommitRow) (r : CommitRow) (rows : List CommitRow) (i : ℕ) → fault_in k graph most (r ∷ rows) (suc i) ≡ fault_in (k + 1) (with_row graph r) most rows i
  unfolding fault_in
  at_next k graph r rows i =
      let e : k + suc i ≡ k + 1 + i = omega arith in
      ap (λ (n : ℕ). option_map_or (λ x. fault_of (joined (with_row graph r) (take i rows)) most n x) (slice_get rows i) None) e

  sound_from : (k : ℕ) (graph : List CommitRow) (rows : List CommitRow) → ((i : ℕ) → i < length rows → fault_in k graph most rows i ≡ None) → extended_from k graph most rows ≡ Ok (joined graph rows)
  sound_from k graph [] h = refl
  sound_from k graph (r ∷ rows) h =
      ap (λ (o : Option GraphFault). option_map_or Err o (extended_from (k + 1) (with_row graph r) most rows)) (sym (at_first k graph r rows) ∙ h 0 (omega arith))
      ∙ sound_from (k + 1) (with_row graph r) rows (λ i lt. sym (at_next k graph r rows i) ∙ h (suc i) (omega arith))

  fault_from : (k : ℕ) (graph : List CommitRow) (rows : List CommitRow) (n : ℕ) (e : GraphFault) → n < length rows → fault_in k graph most rows n ≡ Some e
      → ((i : ℕ) → i < n → fault_in k graph most rows i ≡ None) → extended_from k graph most rows ≡ Err e
  fault_from k graph [] n e lt h first = absurd (omega arith)
  fault_from k graph (r ∷ rows) zero e lt h first =
      ap (λ (o : Option GraphFault). option_map_or Err o (extended_from (k + 1) (with_row graph r) most rows)) (sym (at_first k graph r rows) ∙ h)
  fault_from k graph (r ∷ rows) (suc n) e lt h first =
      ap (λ (o : Option GraphFault). option_map_or Err o (extended_from (k + 1) (with_row graph r) most rows)) (sym (at_first k graph r rows) ∙ first 0 (omega arith))
      ∙ fault_from (k + 1) (with_row graph r) rows n e (omega arith) (sym (at_next k graph r rows n) ∙ h) (λ i below. sym (at_next k graph r rows i) ∙ first (suc i) (omega arith))

from_zero : (graph : List CommitRow) (most : ℕ) (rows : List CommitRow) (i : ℕ) → fault_in 0 graph most rows i ≡ fault_at graph most rows i
unfolding fault_in
from_zero graph most rows i =
    let e : 0 + i ≡ i = omega arith in
    ap (λ (n : ℕ). option_map_or (λ x. fault_of (joined graph (take i rows)) most n x) (slice_get rows i) None) e

pub is_extended : (graph : List CommitRow) (most : ℕ) (rows : List CommitRow) (g : List CommitRow) → g ≡ joined graph rows → IsSound graph most rows → extended graph most rows ≡ Ok g
unfolding extended
is_extended graph most rows g e h = sound_from most 0 graph rows (λ i lt. from_zero graph most rows i ∙ h i lt) ∙ ap Ok (sym e)

pub is_refused : (graph : List CommitRow) (most : ℕ) (rows : List CommitRow) (e : GraphFault) → IsFirstFault graph most rows e → extended graph most rows ≡ Err e
unfolding extended
is_refused graph most rows e f = fault_from most 0 graph rows (row_of e) e f.there (from_zero graph most rows (row_of e) ∙ f.found) (λ i lt. from_zero graph most rows i ∙ f.first i lt)
