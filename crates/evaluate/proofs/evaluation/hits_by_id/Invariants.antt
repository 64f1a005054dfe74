use Rattle.std.proofs.Common.{◌≡◌, ◌+◌, ◌*◌, ◌≤◌, map, take}
use Rattle.std.specs.Arc.{arc_value}
use Rattle.std.specs.List.{sum_by}
use Rattle.evaluate.specs.Hits.{hits, keyed}
use Rattle.evaluate.specs.Rows.{subject_rows}
use Rattle.evaluate.proofs.evaluation.hits_by_id.Given as goal

abbrev pub invariant-loop-record : goal.invariant-loop-record
invariant-loop-record g l =
    let repos = map (λ g. (g.0, arc_value g.1)) l.repos in
    let before = map (λ a. arc_value a) (take l.record-index l.records) in
    record {
      hits : map (λ e. (e.0.now, arc_value e.1.now)) l.found.entries ≡ map keyed (hits before repos l.subject);
      steps : l.steps.graph ≤ l.fn.steps.graph + 2 * sum_by (subject_rows repos l.subject) before;
      records : l.steps.record_count ≡ l.fn.steps.record_count;
    }
