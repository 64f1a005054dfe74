use Rattle.std.proofs.Common.{◌≡◌, ℕ, ◌+◌, ◌<◌, ◌≤◌, ◌++◌, [], None, length}
use Rattle.std.specs.Vec.Iter.{into_iter_items}
use Rattle.osv_prim.specs.Graphs.{joined}
use Rattle.commit_graph.specs.Faults.{fault_at}
use Rattle.commit_graph.proofs.graph.Graph.of_rows.Given as goal

abbrev pub invariant-loop-row : goal.invariant-loop-row
invariant-loop-row g l =
    record {
      split : l.yielded ++ into_iter_items l.row-iterator ≡ l.fn.rows;
      count : l.index ≡ length l.yielded;
      so_far : l.graph ≡ joined [] l.yielded;
      sound : (k : ℕ) → k < l.index → fault_at [] l.most l.fn.rows k ≡ None;
      steps : l.steps.graph ≤ l.fn.steps.graph + l.index;
      records : l.steps.record_count ≡ l.fn.steps.record_count;
    }
