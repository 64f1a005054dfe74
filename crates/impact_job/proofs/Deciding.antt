-- What is to be done for a GIT range, by what came since.
use Rattle.std.proofs.Common.{◌≡◌, ℕ, Bool, true, false, cond, List, [], length, drop, Option, Some, None, refl, sym, ap, subst, ◌∙◌}
use Rattle.std.specs.Prelude.{◌≢◌, slice_get, MatchOption, option_map, unwrap_or}
use Rattle.std.specs.Arc.{arc_value}
use Rattle.std.proofs.lemmas.Option.{slice_get-map}
use Rattle.std.proofs.Math.Seq.{drop-append_seam}
use mathlib.Core.List.{IsPrefix}
use Rattle.osv_prim.specs.declared.oid.CommitRow.{CommitRow}
use Rattle.history.specs.declared.past.Past.{Past}
use Rattle.history.specs.declared.piece_kind.PieceKind.{PieceKind}
use Rattle.history.specs.declared.piece_kind.PieceKind.TheVariants.{Fresh, Extend, Carry}
use Rattle.history.specs.Prefixes.{graph}
use Rattle.history.specs.Lookups.{has_import, has_grow}
use Rattle.history.specs.Pieces.{GitRange, repo_of, git_ranges_in, kind_of}
use Rattle.history.proofs.Lookups.{graph-stays}
use Rattle.impact_set.specs.Standing.{Known, StandsFor}
use Rattle.piece_work.specs.declared.piece.Piece.{Piece}
use Rattle.piece_work.specs.Sets.{IsSetOf}
use Rattle.impact_job.specs.Tables.{IsPieceFor}
use Rattle.impact_job.specs.Walks.{IsOld}

module _ (b p : List Past) where
  abbrev pub came : List Past
  came = drop (length b) p

  kind_at : (x : GitRange) (i g : Bool) → has_import came x.advisory.id ≡ i → has_grow came (repo_of x) ≡ g → kind_of came x ≡ cond i Fresh (cond g Extend Carry)
  kind_at x i g e f = ap (λ (t : Bool). cond t Fresh (cond (has_grow came (repo_of x)) Extend Carry)) e ∙ ap (λ (t : Bool). cond i Fresh (cond t Extend Carry)) f

  pub fresh-kind : (x : GitRange) → has_import came x.advisory.id ≡ true → kind_of came x ≡ Fresh
  fresh-kind x e = kind_at x true (has_grow came (repo_of x)) e refl

  pub extend-kind : (x : GitRange) → has_import came x.advisory.id ≡ false → has_grow came (repo_of x) ≡ true → kind_of came x ≡ Extend
  extend-kind x e g = kind_at x false true e g

  pub carry-kind : (x : GitRange) → has_import came x.advisory.id ≡ false → has_grow came (repo_of x) ≡ false → kind_of came x ≡ Carry
  carry-kind x e g = kind_at x false false e g

  pub piece-for : (piece : Piece) (x : GitRange) → arc_value piece.advisory ≡ x.advisory → piece.entry ≡ x.entry → piece.range ≡ x.range → arc_value piece.graph ≡ graph p (repo_of x)
      → slice_get (git_ranges_in p) piece.number ≡ Some x → kind_of came x ≡ piece.kind → (piece.kind ≢ Fresh → MatchOption piece.old ⊥ (λ old. IsSetOf b x (arc_value old))) → piece.kind ≢ Carry
      → IsPieceFor b p x piece
  piece-for piece x advisory entry range whole at kind old other =
      let paired : PieceKind → Option (GitRange × PieceKind) = λ k. Some (x, k) in
      record {
        its_piece =
            record {
              range = x;
              listed =
                  slice_get-map (λ (y : GitRange). (y, kind_of came y)) (git_ranges_in p) piece.number
                  ∙ ap (λ (o : Option GitRange). option_map {U = GitRange × PieceKind} (λ y. (y, kind_of came y)) o) at
                  ∙ ap paired kind;
              advisory = advisory;
              entry = entry;
              index = range;
              its_graph = whole;
              old = old;
            };
        its_range = refl;
        not_carried = other;
      }

  -- a repository without a Grow has the graph that it had
  pub stayed : (x : GitRange) (set : Known) → IsPrefix b p → has_grow came (repo_of x) ≡ false → IsSetOf b x set → IsSetOf p x set
  stayed x set front none is =
      let later : came ≡ front.0 = ap (drop (length b)) (sym front.1) ∙ drop-append_seam b front.0 in
      let same : graph p (repo_of x) ≡ graph b (repo_of x) =
      ap (λ (q : List Past). graph q (repo_of x)) (sym front.1) ∙ graph-stays b front.0 (repo_of x) (ap (λ (q : List Past). has_grow q (repo_of x)) (sym later) ∙ none)
      in
      subst (λ (g : List CommitRow). StandsFor x.extent.events g set) (sym same) is

  -- a set that is there is of an advisory that did not come anew
  pub old-there : (anew : Bool) (x : GitRange) (set : Known) → IsOld anew b x (Some set) → (anew ≡ false) × IsSetOf b x set
  old-there true x set o = absurd cc
  old-there false x set o = (refl, o)

  pub old-missing : (anew : Bool) (x : GitRange) → IsOld anew b x None → anew ≡ true
  old-missing true x o = refl
  old-missing false x o = absurd o

pub repo-is : (x : GitRange) (key : List ℕ) → x.extent.repo ≡ Some key → repo_of x ≡ key
repo-is x key e = ap (λ (o : Option (List ℕ)). unwrap_or o []) e
