use Rattle.std.proofs.Common.{[], ◌∷◌, map, ap, ◌∙◌, arith}
use Rattle.std.specs.Arc.{arc_value}
use Rattle.drill.specs.Imported.{drill_key}
use Rattle.drill.proofs.Dividing.{made-of, values-made-of}
use Rattle.drill.proofs.Having.{has-eq, only-none, only-one}
use Rattle.drill.proofs.parts.play_parts.Goals as goal

pub returns-clause-has : goal.returns-clause-has
returns-clause-has g c h =
    let one = c.in_ok-play_part.ensures.has [] [] [] only-none h in
    let two = c.in_ok-play_part-2.ensures.has _ _ _ only-one one in
    let three = c.in_ok-play_part-3.ensures.has _ _ _ only-one two in
    let four = c.play_part-4.ensures.has _ _ _ only-one three in
    let came =
    values-made-of (λ x. arc_value x) c.as_slice-all.result.now c.part-first.result.now c.part-second.result.now c.part-third.result.now c.part-fourth.result.now
    (made-of c.as_slice-all.result.now c.part-first.result.now c.part-second.result.now c.part-third.result.now c.part-fourth.result.now
    c.quarters-a.result.second c.quarters-a.result.third c.quarters-a.result.fourth c.quarters-a.ensures.second c.quarters-a.ensures.third (omega (arith, c.quarters-a.ensures.fourth))
    c.part-first.ensures c.part-second.ensures c.part-third.ensures c.part-fourth.ensures)
    ∙ ap (λ xs. map (λ x. arc_value x) xs) c.as_slice-all.ensures.value in
    let rows =
    made-of c.as_slice-rows.result.now c.part.result.now c.part-2.result.now c.part-3.result.now c.part-last.result.now
    c.quarters-r.result.second c.quarters-r.result.third c.quarters-r.result.fourth c.quarters-r.ensures.second c.quarters-r.ensures.third (omega (arith, c.quarters-r.ensures.fourth))
    c.part.ensures c.part-2.ensures c.part-3.ensures c.part-last.ensures
    ∙ c.as_slice-rows.ensures.value in
    has-eq c.play_part-4.result c.play_part-4.new.book (drill_key ∷ []) came rows four
