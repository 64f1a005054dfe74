use Rattle.std.proofs.Common.{◌≡◌, ◌+◌, ◌≤◌, ℕ, List, map, take, sum_by, length}
use Rattle.std.specs.Arc.{arc_value}
use Rattle.commit_index.specs.Places.{found, places}
use Rattle.commit_index.proofs.index.CommitIndex.build.Given as goal

abbrev pub invariant-loop-number : goal.invariant-loop-number
invariant-loop-number g l =
    record {
      places : (c : List ℕ) → found l.entries.items c ≡ places (map (λ r. arc_value r.1) (take l.number l.repos)) c;
      steps : l.steps.graph ≤ l.fn.steps.graph + sum_by length (map (λ r. arc_value r.1) (take l.number l.repos));
      records : l.steps.record_count ≡ l.fn.steps.record_count;
    }
