use Rattle.std.proofs.Common.{◌≡◌, ◌+◌, ◌<◌, ℕ, List, [], length, take, refl, sym, subst, ◌∙◌, arith, rules}
use Rattle.std.proofs.lemmas.List.{take_all}
use Rattle.impact_set.proofs.Holding.{AreUnmarked, AreListed, unmarked-more, listed-next, unmarked-none, listed-none}
use Rattle.impact_set.proofs.reached.held_back.Goals as goal

pub loop-number-init : goal.loop-number-init
loop-number-init c =
    let empty : c.new-held.result.items ≡ [] = search rules in
    record { size = refl; unmarked = unmarked-none c.args.marks.now; listed = subst (AreListed c.args.marks.now []) (sym empty) (listed-none c.args.marks.now) }

pub loop-number-preserved : goal.loop-number-preserved
loop-number-preserved c =
    let inv = c.loop-number.invariant in
    let old = c.args.marks.now in
    let last = c.args.last_affected.now in
    let i = c.loop-number.number-index in
    let lt : i < length last = omega (arith, c.loop-number-test.true) in
    record {
      size = c.take-was.ensures.size ∙ inv.size;
      unmarked = unmarked-more old last i lt c.loop-number.marks inv.unmarked c.take-was.new.self c.take-was.ensures.each;
      listed =
          subst (AreListed old (take (i + 1) last)) (sym c.in_ok-push_if.ensures)
          (listed-next old last i lt c.loop-number.marks inv.unmarked c.loop-number.held.items inv.listed c.take-was.result c.take-was.ensures.was);
    }

pub returns-clause-marks : goal.returns-clause-marks
returns-clause-marks c =
    let last = c.args.last_affected.now in
    subst (λ (xs : List ℕ). AreUnmarked c.args.marks.now xs c.loop-number.marks) (take_all c.loop-number.number-index last (omega (arith, c.loop-number-test.false))) c.loop-number.invariant.unmarked

pub returns-clause-held : goal.returns-clause-held
returns-clause-held c =
    let last = c.args.last_affected.now in
    subst (λ (xs : List ℕ). AreListed c.args.marks.now xs c.loop-number.held.items) (take_all c.loop-number.number-index last (omega (arith, c.loop-number-test.false))) c.loop-number.invariant.listed
