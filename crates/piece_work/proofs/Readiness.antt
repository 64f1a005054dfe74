-- A piece of a build can be done.
use Rattle.std.proofs.Common.{◌≡◌, ℕ, List, [], ◌++◌, length, take, Option, Some, None, refl, sym, ap, subst, ◌∙◌}
use Rattle.std.specs.Prelude.{drop, slice_get, MatchOption, option_map, map}
use Rattle.std.specs.Option.{option_map_or}
use Rattle.std.specs.Arc.{arc_value}
use Rattle.std.specs.declared.sync.Arc.{Arc}
use Rattle.std.proofs.Math.Seq.{drop-append_seam}
use Rattle.std.proofs.lemmas.Option.{slice_get-map}
use mathlib.Core.List.{IsPrefix}
use Rattle.osv_prim.specs.declared.event.Event.{Event}
use Rattle.osv_prim.specs.declared.oid.CommitRow.{CommitRow}
use Rattle.osv_prim.specs.Graphs.{joined}
use Rattle.osv_record.specs.Advisories.{Extent, Advisory}
use Rattle.history.specs.declared.past.Past.{Past}
use Rattle.history.specs.declared.piece_kind.PieceKind.{PieceKind}
use Rattle.history.specs.declared.piece_kind.PieceKind.TheVariants.{Fresh, Extend, Carry}
use Rattle.history.specs.Prefixes.{graph, rows_of, records}
use Rattle.history.specs.Pieces.{GitRange, repo_of, kind_of, git_ranges_in, pieces}
use Rattle.history.proofs.Prefixes.{graph-goes_on}
use Rattle.history.proofs.Pieces.{carried}
use Rattle.impact_set.specs.Standing.{Known, StandsFor}
use Rattle.impact_set.proofs.Prefixes.{joined-grows, stands-first}
use Rattle.piece_work.specs.declared.piece.Piece.{Piece}
use Rattle.piece_work.specs.Works.{extent_at, events_at, events_of, IsReady}
use Rattle.piece_work.specs.Pieces.{IsPieceOf}
use Rattle.piece_work.proofs.Listing.{IsFound, found-each, at_index, paired_range}

module _ (piece : Piece) (b p : List Past) (x : IsPieceOf piece b p) where
  listed_as : (slice_get (git_ranges_in p) piece.number ≡ Some x.range) × (kind_of (drop (length b) p) x.range ≡ piece.kind)
  listed_as = paired_range (kind_of (drop (length b) p)) (slice_get (git_ranges_in p) piece.number) x.range piece.kind (sym (slice_get-map (λ (y : GitRange). (y, kind_of (drop (length b) p) y)) (git_ranges_in p) piece.number) ∙ x.listed)

  found_there : IsFound x.range
  found_there = at_index (git_ranges_in p) piece.number x.range (found-each (records p)) listed_as.0

  pub piece-events : events_of piece ≡ x.range.extent.events
  piece-events =
      ap (λ (r : Advisory). events_at r piece.entry piece.range) x.advisory ∙ ap (λ (e : ℕ). events_at x.range.advisory e piece.range) x.entry
      ∙ ap (λ (i : ℕ). events_at x.range.advisory x.range.entry i) x.index
      ∙ ap (λ (o : Option Extent). option_map_or (λ y. y.events) o []) found_there

module _ (piece : Piece) (b p : List Past) (front : IsPrefix b p) (x : IsPieceOf piece b p) where
  abbrev came : List Past
  came = front.0

  later : drop (length b) p ≡ came
  later = ap (drop (length b)) (sym front.1) ∙ drop-append_seam b came

  grown_graph : graph p (repo_of x.range) ≡ joined (graph b (repo_of x.range)) (rows_of came (repo_of x.range))
  grown_graph = ap (λ (q : List Past). graph q (repo_of x.range)) (sym front.1) ∙ graph-goes_on b came (repo_of x.range)

  extend_one : {Z : Type 0} (old : Option (Arc Known Z)) → MatchOption old ⊥ (λ o. StandsFor x.range.extent.events (graph b (repo_of x.range)) (arc_value o))
      → MatchOption old ⊥ (λ o. StandsFor (events_of piece) (take (length (arc_value {X = Known} o).reached) (arc_value piece.graph)) (arc_value o))
  extend_one None h = h
  extend_one (Some o) h =
      let more = joined-grows (graph b (repo_of x.range)) (rows_of came (repo_of x.range)) in
      subst (λ (es : List Event). StandsFor es (take (length (arc_value {X = Known} o).reached) (arc_value piece.graph)) (arc_value o)) (sym (piece-events piece b p x))
      (subst (λ (g : List CommitRow). StandsFor x.range.extent.events (take (length (arc_value {X = Known} o).reached) g) (arc_value o)) (sym (x.its_graph ∙ grown_graph))
      (stands-first x.range.extent.events (graph b (repo_of x.range)) _ (arc_value o) h more.0 more.1))

  carry_one : {Z : Type 0} (old : Option (Arc Known Z)) → graph p (repo_of x.range) ≡ graph b (repo_of x.range) → MatchOption old ⊥ (λ o. StandsFor x.range.extent.events (graph b (repo_of x.range)) (arc_value o))
      → MatchOption old ⊥ (λ o. StandsFor (events_of piece) (arc_value piece.graph) (arc_value o))
  carry_one None same h = h
  carry_one (Some o) same h =
      subst (λ (es : List Event). StandsFor es (arc_value piece.graph) (arc_value o)) (sym (piece-events piece b p x))
      (subst (λ (g : List CommitRow). StandsFor x.range.extent.events g (arc_value o)) (sym (x.its_graph ∙ same)) h)

  apart : (k : PieceKind) → piece.kind ≡ k → (k ≡ Fresh → ⊥) → piece.kind ≡ Fresh → ⊥
  apart k e none f = none (sym e ∙ f)

  pub piece-ready : IsReady piece
  piece-ready =
      record {
        extend = λ e. extend_one piece.old (x.old (apart Extend e (λ f. absurd cc)));
        carry = λ e.
            let kind : kind_of came x.range ≡ Carry = ap (λ (q : List Past). kind_of q x.range) (sym later) ∙ (listed_as piece b p x).1 ∙ e in
            carry_one piece.old (ap (λ (q : List Past). graph q (repo_of x.range)) (sym front.1) ∙ (carried b came x.range kind).1) (x.old (apart Carry e (λ f. absurd cc)));
      }
