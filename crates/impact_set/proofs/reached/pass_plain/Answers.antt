use Rattle.std.proofs.Common.{◌≡◌, ℕ, ◌<◌, ◌≤◌, length, ap, subst, ◌∙◌, arith}
use Rattle.osv_prim.specs.Counts.{Counts}
use Rattle.impact_set.specs.Passing.{IsOnward}
use Rattle.impact_set.proofs.Forward.{plain-is, onward-more}
use Rattle.impact_set.proofs.reached.pass_plain.Goals as goal

pub loop-number-preserved : goal.loop-number-preserved
loop-number-preserved g c =
    let graph = c.args.graph.now in
    let events = c.args.events.now in
    let legal = c.len.ensures.legal in
    let n = c.loop-number.number in
    let s = c.loop-number.invariant.marks in
    let lt : n < c.args.end = omega (arith, c.loop-number-test.true) in
    let from : c.args.at ≤ n = omega arith in
    let within : n < length graph = omega (arith, c.requires.within) in
    record {
      marks =
          onward-more events graph legal n c.loop-number.marks s c.is_passed_on-reached.result
          (c.is_passed_on-reached.ensures
          ∙ plain-is events graph legal n within c.parents_at-parents.result.now c.parents_at-parents.ensures.parents c.parents_at-parents.ensures.earlier c.loop-number.marks s c.args.from_roots c.requires.roots
          (c.requires.plain n from lt))
          c.set_if.new.self c.set_if.ensures.size c.set_if.ensures.each;
      steps = omega (arith, ap (λ (x : Counts). x.graph) c.parents_at-parents.ensures.steps, c.loop-number.invariant.steps);
      records = ap (λ (x : Counts). x.record_count) c.parents_at-parents.ensures.steps ∙ c.loop-number.invariant.records;
    }

pub returns-clause-marks : goal.returns-clause-marks
returns-clause-marks g c =
    let done : c.loop-number.number ≡ c.args.end = omega (arith, c.loop-number-test.false, c.requires.order) in
    subst (λ (k : ℕ). IsOnward c.args.events.now c.args.graph.now k c.loop-number.marks) done c.loop-number.invariant.marks
