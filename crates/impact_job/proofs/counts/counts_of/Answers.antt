use Rattle.std.proofs.Common.{◌≡◌, ℕ, ◌+◌, List, [], ◌∷◌, ◌++◌, map, drop, ap, sym, subst, ◌∙◌, arith}
use Rattle.std.specs.Prelude.{Option, option_map}
use Rattle.std.specs.Option.{option_to_list}
use Rattle.std.specs.Arc.{arc_value}
use Rattle.std.specs.List.{AllZip}
use Rattle.std.specs.declared.vec.Vec.{Vec}
use Rattle.std.proofs.lemmas.List.{append-nil, length-map, drop_all}
use Rattle.osv_record.specs.Advisories.{Advisory, git_ranges}
use Rattle.osv_record.specs.Imports.{records_from}
use Rattle.evaluate.proofs.Ascending.{is_sorted}
use Rattle.history.specs.Prefixes.{records}
use Rattle.impact_job.specs.Order.{Ascend, IsSplit}
use Rattle.impact_job.specs.Tables.{AreSetsOf}
use Rattle.impact_job.proofs.Parting.{ascending}
use Rattle.impact_job.proofs.Prefixes.{kept-ascend}
use Rattle.impact_job.proofs.Merging.{front-next}
use Rattle.impact_job.proofs.Counting.{Counting, counting-more, counting-whole}
use Rattle.impact_job.proofs.counts.counts_of.Goals as goal

pub loop-record-init : goal.loop-record-init
loop-record-init c = λ b s later.
    let kept : map (λ a. arc_value a) c.as_slice-rest.result.now ≡ records b = ap (map (λ a. arc_value a)) (c.as_slice-rest.ensures.value ∙ ap (λ (v : Vec _ _). v.items) c.deref.ensures) ∙ s.kept in
    let changed : List Advisory = map (λ a. arc_value a.now) c.args.changed.now in
    record {
      done = [];
      counted = c.in_ok-counts.ensures.items;
      merging =
          record {
            so_far = ap (λ (xs : List Advisory). records_from xs changed) kept;
            rest_ascends = ascending _ (subst (λ (xs : List Advisory). Ascend xs) (sym kept) (kept-ascend b));
            later_ascends = ascending _ later;
          };
      old = subst (λ (xs : List Advisory). AllZip (AreSetsOf b) xs c.as_slice-sets.result.now) (sym kept) (subst (λ (sets : List (List _)). AllZip (AreSetsOf b) (records b) sets) (sym c.as_slice-sets.ensures.value) s.sets);
    }

pub loop-record-preserved : goal.loop-record-preserved
loop-record-preserved c = λ b s later.
    let i : ℕ = c.loop-record.record-index in
    let y : Advisory = arc_value c.record-item.result.now in
    let ys : List Advisory = map (λ a. arc_value a.now) (drop (i + 1) c.args.changed.now) in
    let whole : List Advisory = records_from (records b) (map (λ a. arc_value a.now) c.args.changed.now) in
    let counts : List ℕ = c.loop-record.counts.items in
    let rest : List Advisory = map (λ a. arc_value a) c.loop-record.rest.now in
    let sets = c.loop-record.sets.now in
    let below : List Advisory = map (λ a. arc_value a) c.split_at_id-parts.result.below.now in
    let found : Option Advisory = option_map (λ a. arc_value a.now) c.split_at_id-parts.result.found in
    let above : List Advisory = map (λ a. arc_value a) c.split_at_id-parts.result.above.now in
    let next = front-next (λ a. arc_value a.now) c.args.changed.now i c.record-item.result c.loop-record-test.true c.record-item.is in
    let m : Counting b counts rest sets (y ∷ ys) whole = subst (λ (xs : List Advisory). Counting b counts rest sets xs whole) next (c.loop-record.invariant b s later) in
    let id : c.as_bytes.result.now ≡ y.id = c.as_bytes.ensures.value ∙ c.as_str.ensures.value ∙ ap (λ (x : Advisory). x.id) (c.behind-record.view_is ∙ c.deref-in-loop-record.ensures) in
    let split : IsSplit y.id rest below found above = subst (λ (t : List ℕ). IsSplit t rest below found above) id (c.split_at_id-parts.ensures (is_sorted _ m.merging.rest_ascends)) in
    let first =
    c.in_ok-after.ensures b below (option_to_list found ++ above) (length-map c.split_at_id-parts.result.below.now (λ a. arc_value a))
    (subst (λ (xs : List Advisory). AllZip (AreSetsOf b) xs sets) split.whole m.old)
    in
    let last : c.push.new.self.items ≡ c.put_first.new.counts.items ++ git_ranges y.affected ∷ [] =
    c.in_ok-push.ensures.items ∙ ap (λ (n : ℕ). c.put_first.new.counts.items ++ n ∷ []) (c.git_ranges.ensures.count ∙ ap (λ (x : Advisory). git_ranges x.affected) c.deref-in-loop-record-2.ensures)
    in
    counting-more b counts rest sets y ys whole below found above c.put_first.new.counts.items c.push.new.self.items c.without-sets.result.now m split first.0 last (c.without-sets.ensures b above first.1)

pub returns : goal.returns
returns c = λ b s later.
    let i : ℕ = c.loop-record.record-index in
    let whole : List Advisory = records_from (records b) (map (λ a. arc_value a.now) c.args.changed.now) in
    let counts : List ℕ = c.loop-record.counts.items in
    let rest : List Advisory = map (λ a. arc_value a) c.loop-record.rest.now in
    let sets = c.loop-record.sets.now in
    let end : map (λ a. arc_value a.now) (drop i c.args.changed.now) ≡ [] = ap (map (λ a. arc_value a.now)) (drop_all i c.args.changed.now (omega (arith, c.loop-record-test.false))) in
    let m : Counting b counts rest sets [] whole = subst (λ (xs : List Advisory). Counting b counts rest sets xs whole) end (c.loop-record.invariant b s later) in
    let last =
    c.in_ok-put_first.ensures b rest [] (length-map c.loop-record.rest.now (λ a. arc_value a)) (subst (λ (xs : List Advisory). AllZip (AreSetsOf b) xs sets) (sym (append-nil rest)) m.old)
    in
    counting-whole b counts rest sets whole _ m last.0
