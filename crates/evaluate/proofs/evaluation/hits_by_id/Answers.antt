use Rattle.std.proofs.Common.{◌≡◌, ◌+◌, ◌*◌, ◌≤◌, ℕ, List, take, map, sum_by, is_eq, refl, sym, ap, ◌∙◌, arith}
use Rattle.std.specs.Arc.{arc_value}
use Rattle.osv_record.specs.Advisories.{Advisory}
use Rattle.evaluate.specs.Hits.{Repo, is_hit, hits, keyed}
use Rattle.evaluate.specs.Rows.{subject_rows}
use Rattle.evaluate.proofs.Ascending.{by_id}
use Rattle.evaluate.proofs.ById.{pair, inserted, taken_out, one_more, count_more, count_within}
use Rattle.evaluate.proofs.evaluation.hits_by_id.Goals as goal
use Rattle.evaluate.proofs.evaluation.hits_by_id.Goals.{then-branch+in_ok-insert, else-branch}

pub returns-in_err-is_hit-clause-steps : goal.returns-in_err-is_hit-clause-steps
returns-in_err-is_hit-clause-steps g c =
    let repos : List Repo = map (λ g. (g.0, arc_value g.1)) c.args.repos.now in
    let rows : Advisory → ℕ = subject_rows repos c.args.subject.now in
    omega (
      arith,
      c.in_err-is_hit.ensures.steps,
      ap rows c.deref.ensures,
      c.loop-record.invariant.steps,
      count_within (λ a. arc_value a) rows c.args.records.now c.loop-record.record-index c.record-item.result c.loop-record-test.true c.record-item.is,
    )

pub returns-in_err-insert-clause-steps : goal.returns-in_err-insert-clause-steps
returns-in_err-insert-clause-steps g c =
    let repos : List Repo = map (λ g. (g.0, arc_value g.1)) c.args.repos.now in
    let rows : Advisory → ℕ = subject_rows repos c.args.subject.now in
    omega (
      arith,
      c.in_ok-is_hit.ensures.steps,
      ap rows c.deref.ensures,
      c.loop-record.invariant.steps,
      count_within (λ a. arc_value a) rows c.args.records.now c.loop-record.record-index c.record-item.result c.loop-record-test.true c.record-item.is,
    )

pub loop-record-preserved : goal.loop-record-preserved
loop-record-preserved g c =
    let repos : List Repo = map (λ g. (g.0, arc_value g.1)) c.args.repos.now in
    let s = c.args.subject.now in
    let r = arc_value c.record-item.result in
    let before : List Advisory = map (λ a. arc_value a) (take c.loop-record.record-index c.args.records.now) in
    let answer : c.in_ok-is_hit.field-0 ≡ is_hit repos s r = c.in_ok-is_hit.ensures.hit ∙ ap (is_hit repos s) c.deref.ensures in
    let next = ap (λ (xs : List Advisory). map keyed (hits xs repos s)) (sym (one_more (λ a. arc_value a) c.args.records.now c.loop-record.record-index c.record-item.result c.loop-record-test.true c.record-item.is)) in
    let rows : Advisory → ℕ = subject_rows repos s in
    let counted : c.is_hit.new.steps.graph ≤ c.args.steps.now.graph + 2 * sum_by rows (map (λ a. arc_value a) (take (c.loop-record.record-index + 1) c.args.records.now)) =
    omega (
      arith,
      c.in_ok-is_hit.ensures.steps,
      ap rows c.deref.ensures,
      c.loop-record.invariant.steps,
      count_more (λ a. arc_value a) rows c.args.records.now c.loop-record.record-index c.record-item.result c.loop-record-test.true c.record-item.is,
    ) in
    record {
      hits =
          elim c.if-branch.branch [
            | then-branch+in_ok-insert w ↦
                ap (λ m. map (pair (λ x. arc_value x.now)) m.entries) w.found-is
                ∙ ap (map (pair (λ x. arc_value x.now))) w.in_ok-insert.ensures.entries
                ∙ inserted (λ x. arc_value x.now) c.loop-record.found.entries _ _ before r repos s (ap (λ (y : Advisory). y.id) (w.behind-record.view_is ∙ w.deref-then-branch.ensures)) refl (sym answer ∙ w.if-branch.true) c.loop-record.invariant.hits
                ∙ next
            | else-branch w ↦
                ap (λ m. map (pair (λ x. arc_value x.now)) m.entries) w.found-is
                ∙ ap (map (pair (λ x. arc_value x.now))) w.remove.ensures.entries
                ∙ taken_out (λ x. arc_value x.now) _ c.loop-record.found.entries before r repos s (λ k. ap (λ (y : Advisory). is_eq (by_id y.id k.now)) (w.behind-record-else-branch.view_is ∙ w.deref-else-branch.ensures)) (sym answer ∙ w.if-branch.false) c.loop-record.invariant.hits
                ∙ next
          ];
      steps = counted;
      records = c.in_ok-is_hit.ensures.records ∙ c.loop-record.invariant.records;
    }
