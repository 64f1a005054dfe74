use Rattle.std.proofs.Common.{◌≡◌, ℕ, ◌+◌, List, [], ◌∷◌, ◌++◌, map, drop, refl, sym, ap, subst, ◌∙◌}
use Rattle.std.specs.Prelude.{Option, option_map}
use Rattle.std.specs.Arc.{arc_value}
use Rattle.std.proofs.lemmas.List.{map-append}
use Rattle.osv_record.specs.Advisories.{Advisory}
use Rattle.osv_record.specs.Imports.{records_from}
use Rattle.evaluate.proofs.Ascending.{is_sorted}
use Rattle.impact_job.specs.Order.{IsSplit}
use Rattle.impact_job.proofs.Parting.{ascending}
use Rattle.impact_job.proofs.Merging.{Merging, merging-more, front-next}
use Rattle.impact_job.proofs.merge.merged.Goals as goal

pub loop-record-init : goal.loop-record-init
loop-record-init c = λ up later. record { so_far = rw c.in_ok-records.ensures.items refl; rest_ascends = ascending _ up; later_ascends = ascending _ later }

pub loop-record-preserved : goal.loop-record-preserved
loop-record-preserved c = λ up later.
    let m = c.loop-record.invariant up later in
    let y : Advisory = arc_value c.record-item.result.now in
    let done : List Advisory = map (λ a. arc_value a) c.loop-record.records.items in
    let below : List Advisory = map (λ a. arc_value a) c.split_at_id-parts.result.below.now in
    let above : List Advisory = map (λ a. arc_value a) c.split_at_id-parts.result.above.now in
    let ys : List Advisory = map (λ a. arc_value a.now) (drop (c.loop-record.record-index + 1) c.args.changed.now) in
    let whole : List Advisory = records_from (map (λ a. arc_value a) c.args.base.now) (map (λ a. arc_value a.now) c.args.changed.now) in
    let next = front-next (λ a. arc_value a.now) c.args.changed.now c.loop-record.record-index c.record-item.result c.loop-record-test.true c.record-item.is in
    let id : c.as_bytes.result.now ≡ y.id = c.as_bytes.ensures.value ∙ c.as_str.ensures.value ∙ ap (λ (x : Advisory). x.id) (c.behind-record.view_is ∙ c.deref.ensures) in
    let rest : List Advisory = map (λ a. arc_value a) c.loop-record.rest.now in
    let found : Option Advisory = option_map (λ a. arc_value a.now) c.split_at_id-parts.result.found in
    let parts = c.split_at_id-parts.ensures (is_sorted _ m.rest_ascends) in
    let items : map (λ a. arc_value a) c.push.new.self.items ≡ (done ++ below) ++ y ∷ [] =
    ap (map (λ a. arc_value a)) c.in_ok-push.ensures.items
    ∙ map-append (λ a. arc_value a) c.put_all.new.records.items (c.in_ok-try_clone.field-0 ∷ [])
    ∙ ap (λ (xs : List Advisory). xs ++ arc_value c.in_ok-try_clone.field-0 ∷ []) c.in_ok-put_all.ensures
    ∙ ap (λ (x : Advisory). (done ++ below) ++ x ∷ []) c.in_ok-try_clone.ensures
    in
    subst (λ (xs : List Advisory). Merging xs above ys whole) (sym items)
    (merging-more done rest below found above y ys whole (subst (λ (xs : List Advisory). Merging done rest xs whole) next m)
    (subst (λ (i : List ℕ). IsSplit i rest below found above) id parts))
