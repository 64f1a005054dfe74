use Rattle.std.proofs.Common.{◌≡◌, ◌+◌, ◌≤◌, length}
use Rattle.git_range.proofs.Searching.{Searching}
use Rattle.git_range.proofs.reached.finds_start.Given as goal

abbrev pub invariant-loop-at : goal.invariant-loop-at
invariant-loop-at g l =
    record {
      search : Searching l.graph l.events l.fn.number l.at l.marks;
      steps : l.steps.graph + l.at ≤ l.fn.steps.graph + length l.graph;
      records : l.steps.record_count ≡ l.fn.steps.record_count;
    }

abbrev pub decreases-loop-at : goal.decreases-loop-at
decreases-loop-at g l = l.at
