use Rattle.std.proofs.Common.{◌≡◌, ℕ, ◌+◌, List, [], ◌∷◌, ◌++◌, map, drop, sym, subst, arith}
use Rattle.std.specs.Arc.{arc_value}
use Rattle.std.proofs.lemmas.List.{drop_all}
use Rattle.osv_record.specs.Advisories.{Extent}
use Rattle.history.specs.Pieces.{ranges_from}
use Rattle.impact_job.specs.Walks.{IsBegun, AreOld}
use Rattle.impact_job.proofs.Listing.{item_next}
use Rattle.impact_job.proofs.todo.put_ranges.Goals as goal

pub loop-range-preserved : goal.loop-range-preserved
loop-range-preserved c = λ b p anew more later k new w o.
    let m = c.loop-range.invariant b p anew more later k new w o in
    let r = arc_value c.args.advisory.now in
    let e : ℕ = c.args.entry in
    let i : ℕ = c.loop-range.index in
    let x : Extent = c.range-item.result in
    let n : ℕ = c.loop-range.range-index in
    let rest : List Extent = drop (n + 1) c.args.ranges.now in
    let next : drop n c.args.ranges.now ≡ x ∷ rest = item_next c.args.ranges.now n x c.loop-range-test.true c.range-item.is in
    let f =
    c.in_ok-own.ensures b p anew rest more later k new
    (subst (λ (xs : List Extent). IsBegun b p c.loop-range.todo.items (ranges_from r e i xs ++ later)) next m.0)
    (subst (λ (xs : List Extent). AreOld anew b (ranges_from r e i xs ++ more) (map (λ a. arc_value a) c.loop-range.own.now)) next m.1)
    in (
      subst (λ (j : ℕ). IsBegun b p c.put_range.new.todo.items (ranges_from r e j rest ++ later)) (sym c.in_ok-index.ensures) f.0,
      subst (λ (j : ℕ). AreOld anew b (ranges_from r e j rest ++ more) (map (λ a. arc_value a) c.in_ok-own.own.now)) (sym c.in_ok-index.ensures) f.1,
    )

pub returns : goal.returns
returns c = λ b p anew more later k new w o.
    let m = c.loop-range.invariant b p anew more later k new w o in
    let r = arc_value c.args.advisory.now in
    let e : ℕ = c.args.entry in
    let i : ℕ = c.loop-range.index in
    let end : drop c.loop-range.range-index c.args.ranges.now ≡ [] = drop_all c.loop-range.range-index c.args.ranges.now (omega (arith, c.loop-range-test.false)) in (
      subst (λ (xs : List Extent). IsBegun b p c.loop-range.todo.items (ranges_from r e i xs ++ later)) end m.0,
      subst (λ (xs : List Extent). AreOld anew b (ranges_from r e i xs ++ more) (map (λ a. arc_value a) c.loop-range.own.now)) end m.1,
    )
