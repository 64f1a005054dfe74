use Rattle.std.proofs.Common.{◌≤◌, length}
use Rattle.commit_graph.proofs.segments.small_from.Given as goal

abbrev pub invariant-loop-index : goal.invariant-loop-index
invariant-loop-index l =
    record {
      index : l.index ≤ length l.segments;
      place : l.place.0 ≤ length l.segments;
    }

abbrev pub decreases-loop-index : goal.decreases-loop-index
decreases-loop-index l = l.index
