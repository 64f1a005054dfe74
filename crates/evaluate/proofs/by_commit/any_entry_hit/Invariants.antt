use Rattle.std.proofs.Common.{◌≡◌, ◌+◌, ◌*◌, ◌≤◌, length, map, option_map}
use Rattle.std.specs.Arc.{arc_value}
use Rattle.std.specs.List.{list_any, sum_by}
use Rattle.evaluate.specs.Hits.{git_entry_hit}
use Rattle.evaluate.specs.Rows.{entry_rows}
use Rattle.evaluate.proofs.by_commit.any_entry_hit.Given as goal

abbrev pub invariant-loop-rest : goal.invariant-loop-rest
invariant-loop-rest g l =
    let repos = map (λ g. (g.0, arc_value g.1)) l.repos in
    let asked = option_map (λ k. k.now) l.asked in
    record {
      hit : list_any (git_entry_hit repos l.commit asked) l.rest ≡ list_any (git_entry_hit repos l.commit asked) l.entries;
      steps : l.steps.graph + 2 * sum_by (entry_rows repos asked) l.rest ≤ l.fn.steps.graph + 2 * sum_by (entry_rows repos asked) l.entries;
      records : l.steps.record_count ≡ l.fn.steps.record_count;
    }

abbrev pub decreases-loop-rest : goal.decreases-loop-rest
decreases-loop-rest g l = length l.rest
