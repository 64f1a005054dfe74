use Rattle.std.proofs.Common.{◌≡◌, drop, map}
use Rattle.json.specs.Tape.{node_token}
use Rattle.json_view.proofs.Depths.{suits}
use Rattle.json_view.proofs.limits.is_within.Given as goal

abbrev pub invariant-loop-node : goal.invariant-loop-node
invariant-loop-node l = suits l.depth (drop l.node-index (map node_token l.node-items)) ≡ suits 0 (map node_token l.node-items)
