use Rattle.std.proofs.Common.{◌≡◌, ℕ, ◌+◌, ◌-◌, ◌<◌, false, get_or, length, refl, sym, ap, subst, ◌∙◌, arith}
use Rattle.std.proofs.lemmas.Bool.{false≢true, true≢false}
use Rattle.osv_prim.specs.Counts.{Counts}
use Rattle.osv_prim.specs.Graphs.{id_at}
use Rattle.git_range.proofs.Searching.{Searching, reached_by, closed_itself, searching_start, searching_over, searching_on, not_reached, starts_here, starts_not}
use Rattle.git_range.proofs.reached.finds_start.Goals as goal
use Rattle.git_range.proofs.reached.finds_start.Goals.{else-marks-at-via-then-marks-at+else-not-closed-at, else-marks-at-via-else-marks-at}

pub returns-then-closed-number-clause-reached : goal.returns-then-closed-number-clause-reached
returns-then-closed-number-clause-reached g c = (
  λ h. absurd (false≢true h),
  λ reached. absurd (closed_itself c.args.graph.now c.args.events.now c.args.number (sym (c.requires.closed.each c.args.number (omega arith)) ∙ c.if-closed-number.true) reached),
)

pub loop-at-init : goal.loop-at-init
loop-at-init g c =
    record {
      search =
          searching_start c.args.graph.now c.args.events.now c.args.number c.args.marks.now c.requires.there
          (sym (c.requires.closed.each c.args.number (omega arith)) ∙ c.if-closed-number.false) c.requires.marks;
      steps = omega (arith, c.requires.there);
      records = refl;
    }

pub returns-then-is_start-clause-reached : goal.returns-then-is_start-clause-reached
returns-then-is_start-clause-reached g c =
    let at = c.loop-at.at - 1 in
    let s = c.loop-at.invariant.search in
    let low : at < c.args.number + 1 = omega (arith, s.within, c.loop-at-test.true) in
    let lt : at < length c.args.graph.now = omega (arith, low, c.requires.there) in (
      λ h.
          reached_by c.args.graph.now c.args.events.now (id_at c.args.graph.now at) (id_at c.args.graph.now c.args.number)
          (s.sound at low c.if-marks-at.true (sym (c.requires.closed.each at low) ∙ c.if-not-closed-at.true))
          (starts_here c.args.graph.now c.requires.legal c.args.events.now c.args.number c.requires.there at lt c.parents_at-parents.result.now c.parents_at-parents.ensures.parents
          (get_or c.args.starts.now at false) c.names_all-from_roots.result (c.requires.starts.each at low) c.names_all-from_roots.ensures (sym c.is_start.ensures ∙ c.if-is_start.true)),
      λ h. refl,
    )

pub loop-at-preserved-then-not-closed-at : goal.loop-at-preserved-then-not-closed-at
loop-at-preserved-then-not-closed-at g c =
    let at = c.loop-at.at - 1 in
    let next : c.loop-at.at ≡ at + 1 = omega (arith, c.loop-at-test.true) in
    let s = subst (λ (k : ℕ). Searching c.args.graph.now c.args.events.now c.args.number k c.loop-at.marks) next c.loop-at.invariant.search in
    let low : at < c.args.number + 1 = omega (arith, s.within) in
    let lt : at < length c.args.graph.now = omega (arith, low, c.requires.there) in
    record {
      search =
          searching_on c.args.graph.now c.requires.legal c.args.events.now c.args.number c.requires.there at c.loop-at.marks c.mark_all.new.marks c.parents_at-parents.result.now s
          c.if-marks-at.true (sym (c.requires.closed.each at low) ∙ c.if-not-closed-at.true) c.parents_at-parents.ensures.parents c.parents_at-parents.ensures.earlier c.mark_all.ensures c.mark_all.auto.marks
          (starts_not c.args.graph.now c.requires.legal c.args.events.now c.args.number c.requires.there at lt c.parents_at-parents.result.now c.parents_at-parents.ensures.parents
          (get_or c.args.starts.now at false) c.names_all-from_roots.result (c.requires.starts.each at low) c.names_all-from_roots.ensures (sym c.is_start.ensures ∙ c.if-is_start.false));
      steps = omega (arith, ap (λ (x : Counts). x.graph) c.parents_at-parents.ensures.steps, c.loop-at.invariant.steps, c.loop-at-test.true);
      records = ap (λ (x : Counts). x.record_count) c.parents_at-parents.ensures.steps ∙ c.loop-at.invariant.records;
    }

pub loop-at-preserved : goal.loop-at-preserved
loop-at-preserved g c =
    let at = c.loop-at.at - 1 in
    let next : c.loop-at.at ≡ at + 1 = omega (arith, c.loop-at-test.true) in
    let s = subst (λ (k : ℕ). Searching c.args.graph.now c.args.events.now c.args.number k c.loop-at.marks) next c.loop-at.invariant.search in
    let low : at < c.args.number + 1 = omega (arith, s.within) in
    record {
      search =
          searching_over c.args.graph.now c.requires.legal c.args.events.now c.args.number c.requires.there at c.loop-at.marks s
          (λ mark free.
          elim c.else-marks-at.branch [
            | else-marks-at-via-then-marks-at+else-not-closed-at w ↦ true≢false (sym w.if-not-closed-at.false ∙ c.requires.closed.each at low ∙ free)
            | else-marks-at-via-else-marks-at w ↦ true≢false (sym mark ∙ w.if-marks-at.false)
          ]);
      steps = omega (arith, c.loop-at.invariant.steps);
      records = c.loop-at.invariant.records;
    }

pub returns-clause-reached : goal.returns-clause-reached
returns-clause-reached g c =
    let done : c.loop-at.at ≡ 0 = omega (arith, c.loop-at-test.false) in
    let s = subst (λ (k : ℕ). Searching c.args.graph.now c.args.events.now c.args.number k c.loop-at.marks) done c.loop-at.invariant.search in
    (λ h. absurd (false≢true h), λ reached. absurd (not_reached c.args.graph.now c.requires.legal c.args.events.now c.args.number c.requires.there c.loop-at.marks s reached))
