use Rattle.std.proofs.Common.{◌≡◌, List, ◌∷◌, ◌++◌, Some, map, sym, ap, subst, ◌∙◌}
use Rattle.std.specs.Prelude.{is_some}
use Rattle.std.specs.Arc.{arc_value}
use Rattle.std.specs.List.{AllZip}
use Rattle.osv_record.specs.Advisories.{Extent, is_git}
use Rattle.history.specs.Pieces.{ranges_from}
use Rattle.impact_set.specs.Standing.{Known}
use Rattle.piece_work.specs.Sets.{IsSetOf}
use Rattle.set_hits.specs.Places.{Place, set_hit}
use Rattle.set_hits.proofs.Hitting.{git-first}
use Rattle.set_hits.proofs.hit.range_hit.Goals as goal

pub returns-in-Some-split_first : goal.returns-in-Some-split_first
returns-in-Some-split_first c = λ p commit r e i rest more at h.
    let x : Extent = c.args.range.now in
    let key = c.in-Some.key in
    let its : is_some x.repo ≡ is_git x.kind = subst (λ (y : Extent). is_some y.repo ≡ is_git y.kind) c.range.view_is c.range.invariant.0 in
    let named : x.repo ≡ Some key = ap (λ (y : Extent). y.repo) (sym c.range.view_is) ∙ c.in-Some.is in
    let set = c.in-Some-split_first.set.now in
    let f =
    git-first p commit r e i x rest more key (arc_value set) (map (λ a. arc_value a) c.in-Some-split_first.later.now) named its
    (subst (λ (sets : List Known). AllZip (IsSetOf p) (ranges_from r e i (x ∷ rest) ++ more) sets) (ap (map (λ a. arc_value a)) c.in-Some-split_first.ensures.cases.0) h)
    in (
      c.set_hit.ensures
          ∙ ap (λ (known : Known). set_hit known (map (λ x. (x.0.now, x.1)) c.args.places.now) key) c.deref.ensures
          ∙ ap (λ (places : List Place). set_hit (arc_value set) places key) at ∙ f.0,
      f.1,
    )
