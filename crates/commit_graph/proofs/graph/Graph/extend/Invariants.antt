use Rattle.std.proofs.Common.{◌≡◌, ℕ, ◌+◌, ◌<◌, ◌≤◌, None, take}
use Rattle.osv_prim.specs.Graphs.{joined}
use Rattle.commit_graph.specs.Faults.{fault_at}
use Rattle.commit_graph.proofs.graph.Graph.extend.Given as goal

abbrev pub invariant-loop-index : goal.invariant-loop-index
invariant-loop-index g l =
    record {
      so_far : l.graph ≡ joined l.self (take l.index l.rows);
      sound : (k : ℕ) → k < l.index → fault_at l.self l.most l.rows k ≡ None;
      steps : l.steps.graph ≤ l.fn.steps.graph + l.index;
      records : l.steps.record_count ≡ l.fn.steps.record_count;
    }
