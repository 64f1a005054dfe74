use Rattle.std.proofs.Common.{◌≡◌, ℕ, ◌+◌, List, [], ◌++◌, map, drop, refl, ap, subst, ◌∙◌, arith}
use Rattle.std.specs.Prelude.{Option, option_map}
use Rattle.std.specs.Arc.{arc_value}
use Rattle.std.proofs.lemmas.List.{length-map, drop_all}
use Rattle.osv_record.specs.Advisories.{Advisory}
use Rattle.osv_record.specs.Imports.{records_from}
use Rattle.evaluate.proofs.Ascending.{is_sorted}
use Rattle.impact_job.specs.Order.{IsSplit}
use Rattle.impact_job.proofs.Parting.{ascending}
use Rattle.impact_job.proofs.Merging.{Merging, front-next}
use Rattle.impact_job.proofs.Moving.{moved-more, moved-whole}
use Rattle.impact_job.proofs.moves.moves_of.Goals as goal

pub loop-record-init : goal.loop-record-init
loop-record-init c = λ up later. record { front = []; done = []; base_is = refl; moved = c.new-moves.ensures; merging = record { so_far = refl; rest_ascends = ascending _ up; later_ascends = ascending _ later } }

pub loop-record-preserved : goal.loop-record-preserved
loop-record-preserved c = λ up later.
    let m = c.loop-record.invariant up later in
    let y : Advisory = arc_value c.record-item.result.now in
    let base : List Advisory = map (λ a. arc_value a) c.args.base.now in
    let below : List Advisory = map (λ a. arc_value a) c.split_at_id-parts.result.below.now in
    let above : List Advisory = map (λ a. arc_value a) c.split_at_id-parts.result.above.now in
    let ys : List Advisory = map (λ a. arc_value a.now) (drop (c.loop-record.record-index + 1) c.args.changed.now) in
    let whole : List Advisory = records_from base (map (λ a. arc_value a.now) c.args.changed.now) in
    let next = front-next (λ a. arc_value a.now) c.args.changed.now c.loop-record.record-index c.record-item.result c.loop-record-test.true c.record-item.is in
    let id : c.as_bytes.result.now ≡ y.id = c.as_bytes.ensures.value ∙ c.as_str.ensures.value ∙ ap (λ (x : Advisory). x.id) (c.behind-record.view_is ∙ c.deref.ensures) in
    let rest : List Advisory = map (λ a. arc_value a) c.loop-record.rest.now in
    let found : Option Advisory = option_map (λ a. arc_value a.now) c.split_at_id-parts.result.found in
    let parts = c.split_at_id-parts.ensures (is_sorted _ m.merging.rest_ascends) in
    let kept = c.in_ok-keep.ensures m.front m.done below m.moved (length-map c.split_at_id-parts.result.below.now (λ a. arc_value a)) in
    moved-more c.put_in_place.new.moves base rest below found above y ys whole m.front m.done m.base_is (subst (λ (xs : List Advisory). Merging m.done rest xs whole) next m.merging)
    (subst (λ (i : List ℕ). IsSplit i rest below found above) id parts) (c.in_ok-put_in_place.ensures (m.front ++ below) (m.done ++ below) y kept)

pub returns : goal.returns
returns c = λ up later.
    let m = c.loop-record.invariant up later in
    let base : List Advisory = map (λ a. arc_value a) c.args.base.now in
    let rest : List Advisory = map (λ a. arc_value a) c.loop-record.rest.now in
    let whole : List Advisory = records_from base (map (λ a. arc_value a.now) c.args.changed.now) in
    let end = drop_all c.loop-record.record-index c.args.changed.now (omega (arith, c.loop-record-test.false)) in
    moved-whole c.keep-2.new.self base rest whole m.front m.done m.base_is
    (subst (λ (xs : List Advisory). Merging m.done rest xs whole) (ap (map (λ a. arc_value a.now)) end) m.merging)
    (c.in_ok-keep-2.ensures m.front m.done rest m.moved (length-map c.loop-record.rest.now (λ a. arc_value a)))
