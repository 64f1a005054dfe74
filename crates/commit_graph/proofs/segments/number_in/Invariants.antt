use Rattle.std.proofs.Common.{◌≡◌, take, length, None}
use Rattle.std.specs.List.{flat_map}
use Rattle.osv_prim.specs.Graphs.{number_of}
use Rattle.commit_graph.specs.Segments.{Part, seen}
use Rattle.commit_graph.proofs.segments.number_in.Given as goal

abbrev pub invariant-loop-segment : goal.invariant-loop-segment
invariant-loop-segment l =
    record {
      count : l.first ≡ length (flat_map (λ (p : Part). p.rows) (take l.segment-index (seen l.segments)));
      none : number_of (flat_map (λ (p : Part). p.rows) (take l.segment-index (seen l.segments))) l.oid ≡ None;
    }
