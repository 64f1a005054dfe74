use Rattle.std.proofs.Common.{◌≡◌, ℕ, ◌+◌, true, List, [], ◌∷◌, ◌++◌, map, drop, refl, ap, sym, subst, ◌∙◌, arith}
use Rattle.std.specs.Prelude.{Option, option_map, flat_map}
use Rattle.std.specs.Option.{option_to_list}
use Rattle.std.specs.Arc.{arc_value}
use Rattle.std.specs.List.{AllZip}
use Rattle.std.specs.declared.vec.Vec.{Vec}
use Rattle.std.proofs.lemmas.List.{append-nil, drop_all}
use Rattle.osv_record.specs.Advisories.{Advisory}
use Rattle.osv_record.specs.Imports.{records_from}
use Rattle.evaluate.proofs.Ascending.{is_sorted}
use Rattle.history.specs.Prefixes.{records}
use Rattle.history.specs.Pieces.{GitRange, ranges_of}
use Rattle.impact_job.specs.Order.{IsSplit}
use Rattle.impact_job.specs.Tables.{AreSetsOf}
use Rattle.impact_job.specs.Walks.{IsBegun}
use Rattle.impact_job.proofs.Merging.{front-next}
use Rattle.impact_job.proofs.Walking.{begun-end}
use Rattle.impact_job.proofs.Listing.{Listing, first-listing, next-ranges, next-old, next-free, next-listing, last-free}
use Rattle.impact_job.proofs.todo.todo_of.Goals as goal

pub loop-record-init : goal.loop-record-init
loop-record-init c = λ b p k s last.
    let kept = ap (map (λ a. arc_value a)) (c.as_slice-rest.ensures.value ∙ ap (λ (v : Vec _ _). v.items) c.deref.ensures) ∙ s.kept in
    first-listing b p c.new-todo.result.items (map (λ a. arc_value a) c.as_slice-rest.result.now) c.as_slice-sets.result.now (map (λ a. arc_value a.now) c.args.changed.now) k.front c.new-todo.ensures.items kept last
    (subst (λ (sets : List (List _)). AllZip (AreSetsOf b) (records b) sets) (sym c.as_slice-sets.ensures.value) s.sets)

pub loop-record-preserved : goal.loop-record-preserved
loop-record-preserved c = λ b p k s last.
    let m = c.loop-record.invariant b p k s last in
    let i : ℕ = c.loop-record.record-index in
    let y : Advisory = arc_value c.record-item.result.now in
    let ys : List Advisory = map (λ a. arc_value a.now) (drop (i + 1) c.args.changed.now) in
    let todo = c.loop-record.todo.items in
    let rest : List Advisory = map (λ a. arc_value a) c.loop-record.rest.now in
    let sets = c.loop-record.sets.now in
    let below : List Advisory = map (λ a. arc_value a) c.split_at_id-parts.result.below.now in
    let found : Option Advisory = option_map (λ a. arc_value a.now) c.split_at_id-parts.result.found in
    let above : List Advisory = map (λ a. arc_value a) c.split_at_id-parts.result.above.now in
    let tail : List GitRange = flat_map ranges_of (records_from above ys) in
    let next = front-next (λ a. arc_value a.now) c.args.changed.now i c.record-item.result c.loop-record-test.true c.record-item.is in
    let l : Listing b p todo rest sets (y ∷ ys) = subst (λ (xs : List Advisory). Listing b p todo rest sets xs) next m in
    let id : c.as_bytes.result.now ≡ y.id = c.as_bytes.ensures.value ∙ c.as_str.ensures.value ∙ ap (λ (x : Advisory). x.id) (c.behind-record.view_is ∙ c.deref-in-loop-record.ensures) in
    let split : IsSplit y.id rest below found above = subst (λ (t : List ℕ). IsSplit t rest below found above) id (c.split_at_id-parts.ensures (is_sorted _ l.rest_ascends)) in
    let kept =
    c.in_ok-after.ensures b p (option_to_list found ++ above) (ranges_of y ++ tail) k (next-free b p todo rest sets y ys below found above l split)
    (subst (λ (xs : List GitRange). IsBegun b p todo xs) (next-ranges b p todo rest sets y ys below found above l split) l.begun) (next-old b p todo rest sets y ys below found above l split)
    in
    let put = c.in_ok-put_record.ensures b p true tail k l.anew.0 kept.0 refl in
    next-listing b p todo rest sets y ys below found above c.put_record.new.todo.items c.without-sets.result.now l split put (c.without-sets.ensures b above kept.1)

pub returns : goal.returns
returns c = λ b p k s last.
    let i : ℕ = c.loop-record.record-index in
    let todo = c.loop-record.todo.items in
    let rest : List Advisory = map (λ a. arc_value a) c.loop-record.rest.now in
    let sets = c.loop-record.sets.now in
    let end : map (λ a. arc_value a.now) (drop i c.args.changed.now) ≡ [] = ap (map (λ a. arc_value a.now)) (drop_all i c.args.changed.now (omega (arith, c.loop-record-test.false))) in
    let l : Listing b p todo rest sets [] = subst (λ (xs : List Advisory). Listing b p todo rest sets xs) end (c.loop-record.invariant b p k s last) in
    let kept =
    c.in_ok-keep_each.ensures b p [] [] k (last-free b p todo rest sets l) (subst (λ (xs : List GitRange). IsBegun b p todo xs) (sym (append-nil (flat_map ranges_of rest))) l.begun)
    (subst (λ (xs : List Advisory). AllZip (AreSetsOf b) xs sets) (sym (append-nil rest)) l.old)
    in
    begun-end b p _ kept.0
