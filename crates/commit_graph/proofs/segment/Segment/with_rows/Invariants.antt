use Rattle.std.proofs.Common.{◌≡◌, ◌++◌, take}
use Rattle.osv_prim.specs.Graphs.{ids}
use Rattle.commit_graph.proofs.segment.Segment.with_rows.Given as goal

abbrev pub invariant-loop-index : goal.invariant-loop-index
invariant-loop-index l =
    record {
      rows : l.rows.items ≡ l.fn.self.rows ++ take l.index l.other.rows;
      ids : l.ids.keys ≡ ids l.rows.items;
      numbers : l.parents ≡ l.fn.self.numbers ++ take l.index l.other.numbers;
    }
