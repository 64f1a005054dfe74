use Rattle.std.proofs.Common.{◌≡◌, ℕ, ◌+◌, Bool, ◌||◌, List, ◌∷◌, ◌++◌, map, drop, sym, ap, subst, ◌∙◌}
use Rattle.std.specs.Arc.{arc_value}
use Rattle.std.specs.List.{AllZip, list_any}
use Rattle.osv_record.specs.Advisories.{Extent}
use Rattle.evaluate.specs.Hits.{git_range_hit}
use Rattle.history.specs.Prefixes.{graphs}
use Rattle.history.specs.Pieces.{ranges_from}
use Rattle.piece_work.specs.Sets.{IsSetOf}
use Rattle.set_hits.proofs.Hitting.{or_later, item_next}
use Rattle.set_hits.proofs.hit.any_range_hit.Goals as goal

pub loop-range-preserved : goal.loop-range-preserved
loop-range-preserved c = λ p commit r e i more at h.
    let m = c.loop-range.invariant p commit r e i more at h in
    let x : Extent = c.range-item.result in
    let k : ℕ = c.loop-range.range-index in
    let rest : List Extent = drop (k + 1) c.args.ranges.now in
    let next : drop k c.args.ranges.now ≡ x ∷ rest = item_next c.args.ranges.now k x c.loop-range-test.true c.range-item.is in
    let f =
    c.range_hit-hit.ensures p commit r e m.0 rest more at
    (subst (λ (xs : List Extent). AllZip (IsSetOf p) (ranges_from r e m.0 xs ++ more) (map (λ a. arc_value a) c.loop-range.own.now)) next m.1)
    in
    let hit : Extent → Bool = git_range_hit (graphs p) commit in (
      m.0 + 1,
      f.1,
      m.2 ∙ ap (λ (xs : List Extent). c.loop-range.any || list_any hit xs) next
          ∙ ap (λ (b : Bool). c.loop-range.any || (b || list_any hit rest)) (sym f.0)
          ∙ or_later c.loop-range.any c.range_hit-hit.result.0 (list_any hit rest)
          ∙ ap (λ (b : Bool). b || list_any hit rest) (sym c.either-any.ensures),
    )
