use Rattle.std.proofs.Common.{◌≡◌, ◌+◌, take, length}
use Rattle.std.specs.List.{flat_map}
use Rattle.commit_graph.specs.Segments.{Part, seen}
use Rattle.commit_graph.proofs.segments.place_of.Given as goal

abbrev pub invariant-loop-segment : goal.invariant-loop-segment
invariant-loop-segment l =
    record {
      rows : l.index + length (flat_map (λ (p : Part). p.rows) (take l.segment-index (seen l.segments))) ≡ l.number;
      numbers : l.index + length (flat_map (λ (p : Part). p.numbers) (take l.segment-index (seen l.segments))) ≡ l.number;
    }
