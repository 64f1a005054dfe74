use Rattle.std.proofs.Common.{◌≡◌, ◌+◌, ◌*◌, ◌≤◌, length, map}
use Rattle.std.specs.Arc.{arc_value}
use Rattle.std.specs.List.{list_any, sum_by}
use Rattle.evaluate.specs.Hits.{git_range_hit}
use Rattle.evaluate.specs.Rows.{range_rows}
use Rattle.evaluate.proofs.by_commit.any_range_hit.Given as goal

abbrev pub invariant-loop-rest : goal.invariant-loop-rest
invariant-loop-rest g l =
    let repos = map (λ g. (g.0, arc_value g.1)) l.repos in
    record {
      hit : list_any (git_range_hit repos l.commit) l.rest ≡ list_any (git_range_hit repos l.commit) l.entry.ranges;
      steps : l.steps.graph + 2 * sum_by (range_rows repos) l.rest ≤ l.fn.steps.graph + 2 * sum_by (range_rows repos) l.entry.ranges;
      records : l.steps.record_count ≡ l.fn.steps.record_count;
    }

abbrev pub decreases-loop-rest : goal.decreases-loop-rest
decreases-loop-rest g l = length l.rest
