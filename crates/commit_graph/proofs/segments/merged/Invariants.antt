use Rattle.std.proofs.Common.{◌≡◌, ◌++◌, take}
use Rattle.std.specs.List.{flat_map}
use Rattle.commit_graph.specs.Segments.{Part, seen}
use Rattle.commit_graph.proofs.segments.merged.Given as goal

abbrev pub invariant-loop-index : goal.invariant-loop-index
invariant-loop-index l =
    record {
      rows : flat_map (λ (p : Part). p.rows) (take l.from (seen l.segments)) ++ l.whole.rows ≡ flat_map (λ (p : Part). p.rows) (take l.index (seen l.segments));
      numbers : flat_map (λ (p : Part). p.numbers) (take l.from (seen l.segments)) ++ l.whole.numbers ≡ flat_map (λ (p : Part). p.numbers) (take l.index (seen l.segments));
    }
