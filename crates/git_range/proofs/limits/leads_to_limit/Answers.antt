use Rattle.std.proofs.Common.{◌≡◌, ℕ, ◌+◌, ◌-◌, ◌<◌, length, set, false, refl, sym, ap, subst, ◌∙◌, arith}
use Rattle.osv_prim.specs.Counts.{Counts}
use Rattle.osv_prim.specs.Graphs.{id_at, is_named}
use Rattle.osv_prim.specs.declared.event.EventKind.TheVariants.{Limit}
use Rattle.git_range.proofs.Descending.{Descending, descending_start, descending_over, descending_on, ends_before, before_ends}
use Rattle.git_range.proofs.Naming.{noted_fresh}
use Rattle.git_range.proofs.limits.leads_to_limit.Goals as goal
use Rattle.git_range.proofs.limits.leads_to_limit.Goals.{then-loop-at-test+else-not-marks-number, else-loop-at-test}

pub loop-at-init : goal.loop-at-init
loop-at-init g c =
    let named =
    noted_fresh (length c.args.graph.now) (λ n. is_named Limit c.args.events.now (id_at c.args.graph.now n)) c.args.marks.now c.note_named.new.noted c.requires.marks
    c.note_named.auto.noted c.note_named.ensures in
    record {
      descent =
          subst (λ (k : ℕ). Descending c.args.graph.now c.args.events.now c.args.number k (set c.note_named.new.noted c.args.number false)) (sym c.len-at.ensures.len)
          (descending_start c.args.graph.now c.args.events.now c.args.number c.note_named.new.noted c.requires.there named);
      steps = omega (arith, c.len-at.ensures.len);
      records = refl;
    }

pub overflow_cast-at-then-marks-at : goal.overflow_cast-at-then-marks-at
overflow_cast-at-then-marks-at g c = omega (arith, c.loop-at.invariant.descent.within, c.len-at.ensures.len, c.len-at.type_inv)

pub loop-at-preserved-then-marks-at : goal.loop-at-preserved-then-marks-at
loop-at-preserved-then-marks-at g c =
    let at = c.loop-at.at - 1 in
    let next : c.loop-at.at ≡ at + 1 = omega (arith, c.loop-at-test.true) in
    let low : c.args.number < at = omega (arith, c.loop-at-test.true) in
    let s = subst (λ (k : ℕ). Descending c.args.graph.now c.args.events.now c.args.number k c.loop-at.marks) next c.loop-at.invariant.descent in
    record {
      descent =
          descending_on c.args.graph.now c.len-at.ensures.legal c.args.events.now c.args.number c.requires.there at c.loop-at.marks c.mark_all.new.marks c.parents_at.result.now low s
          c.if-marks-at.true c.parents_at.ensures.parents c.parents_at.ensures.earlier c.mark_all.ensures c.mark_all.auto.marks;
      steps = omega (arith, ap (λ (x : Counts). x.graph) c.parents_at.ensures.steps, c.loop-at.invariant.steps, c.loop-at-test.true);
      records = ap (λ (x : Counts). x.record_count) c.parents_at.ensures.steps ∙ c.loop-at.invariant.records;
    }

pub loop-at-preserved : goal.loop-at-preserved
loop-at-preserved g c =
    let at = c.loop-at.at - 1 in
    let next : c.loop-at.at ≡ at + 1 = omega (arith, c.loop-at-test.true) in
    let low : c.args.number < at = omega (arith, c.loop-at-test.true) in
    let s = subst (λ (k : ℕ). Descending c.args.graph.now c.args.events.now c.args.number k c.loop-at.marks) next c.loop-at.invariant.descent in
    record {
      descent = descending_over c.args.graph.now c.len-at.ensures.legal c.args.events.now c.args.number c.requires.there at c.loop-at.marks low s c.if-marks-at.false;
      steps = omega (arith, c.loop-at.invariant.steps);
      records = c.loop-at.invariant.records;
    }

pub returns-clause-before : goal.returns-clause-before
returns-clause-before g c =
    let s = c.loop-at.invariant.descent in (
      ends_before c.args.graph.now c.len-at.ensures.legal c.args.events.now c.args.number c.requires.there c.loop-at.at c.loop-at.marks s,
      λ before.
          elim c.loop-at-test.branch [
            | then-loop-at-test+else-not-marks-number w ↦ w.if-not-marks-number.false
            | else-loop-at-test w ↦
                let end : c.loop-at.at ≡ c.args.number + 1 = omega (arith, w.loop-at-test.false, s.above) in
                before_ends c.args.graph.now c.len-at.ensures.legal c.args.events.now c.args.number c.requires.there c.loop-at.marks
                (subst (λ (k : ℕ). Descending c.args.graph.now c.args.events.now c.args.number k c.loop-at.marks) end s) before
          ],
    )
