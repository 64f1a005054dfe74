use Rattle.std.proofs.Common.{◌≡◌, ℕ, ◌+◌, List, [], ◌∷◌, ◌++◌, map, drop, ap, sym, subst, ◌∙◌, append_assoc, arith}
use Rattle.std.specs.Arc.{arc_value}
use Rattle.std.proofs.lemmas.List.{drop_all}
use Rattle.osv_record.specs.Advisories.{Extent, Entry, Advisory}
use Rattle.history.specs.Pieces.{GitRange, ranges_from, ranges_of_entries}
use Rattle.impact_set.specs.Standing.{Known}
use Rattle.impact_job.specs.Walks.{IsBegun, AreOld}
use Rattle.impact_job.proofs.Listing.{item_next}
use Rattle.impact_job.proofs.todo.put_record.Goals as goal

pub loop-affected-preserved : goal.loop-affected-preserved
loop-affected-preserved c = λ b p anew later k new w o.
    let m = c.loop-affected.invariant b p anew later k new w o in
    let r : Advisory = arc_value c.args.advisory.now in
    let e : ℕ = c.loop-affected.entry in
    let a : Entry = c.affected-item.result in
    let n : ℕ = c.loop-affected.affected-index in
    let items : List Entry = c.as_slice-affected-items.result.now in
    let whole : items ≡ r.affected = c.as_slice-affected-items.ensures ∙ ap (λ (y : Advisory). y.affected) (c.behind-advisory.view_is ∙ c.deref.ensures) in
    let rest : List Entry = drop (n + 1) r.affected in
    let next : drop n r.affected ≡ a ∷ rest =
    subst (λ (xs : List Entry). drop n xs ≡ a ∷ drop (n + 1) xs) whole (item_next items n a c.loop-affected-test.true c.affected-item.is)
    in
    let own : c.as_slice.result.now ≡ a.ranges = c.as_slice.ensures ∙ ap (λ (y : Entry). y.ranges) c.affected.view_is in
    let more : List GitRange = ranges_of_entries r (e + 1) rest in
    let sets : List Known = map (λ a. arc_value a) c.loop-affected.own.now in
    let begun : IsBegun b p c.loop-affected.todo.items (ranges_from r e 0 a.ranges ++ (more ++ later)) =
    subst (λ (xs : List GitRange). IsBegun b p c.loop-affected.todo.items xs) (append_assoc (ranges_from r e 0 a.ranges) more later)
    (subst (λ (xs : List Entry). IsBegun b p c.loop-affected.todo.items (ranges_of_entries r e xs ++ later)) next m.0)
    in
    let old : AreOld anew b (ranges_from r e 0 a.ranges ++ more) sets = subst (λ (xs : List Entry). AreOld anew b (ranges_of_entries r e xs) sets) next m.1 in
    let f =
    c.in_ok-own.ensures b p anew more (more ++ later) k new
    (subst (λ (xs : List Extent). IsBegun b p c.loop-affected.todo.items (ranges_from r e 0 xs ++ (more ++ later))) (sym own) begun)
    (subst (λ (xs : List Extent). AreOld anew b (ranges_from r e 0 xs ++ more) sets) (sym own) old)
    in (
      subst (λ (j : ℕ). IsBegun b p c.put_ranges.new.todo.items (ranges_of_entries r j rest ++ later)) (sym c.in_ok-entry.ensures) f.0,
      subst (λ (j : ℕ). AreOld anew b (ranges_of_entries r j rest) (map (λ a. arc_value a) c.in_ok-own.own.now)) (sym c.in_ok-entry.ensures) f.1,
    )

pub returns : goal.returns
returns c = λ b p anew later k new w o.
    let m = c.loop-affected.invariant b p anew later k new w o in
    let r : Advisory = arc_value c.args.advisory.now in
    let n : ℕ = c.loop-affected.affected-index in
    let items : List Entry = c.as_slice-affected-items.result.now in
    let whole : items ≡ r.affected = c.as_slice-affected-items.ensures ∙ ap (λ (y : Advisory). y.affected) (c.behind-advisory.view_is ∙ c.deref.ensures) in
    let end : drop n r.affected ≡ [] = ap (drop n) (sym whole) ∙ drop_all n items (omega (arith, c.loop-affected-test.false)) in
    subst (λ (xs : List Entry). IsBegun b p c.loop-affected.todo.items (ranges_of_entries r c.loop-affected.entry xs ++ later)) end m.0
