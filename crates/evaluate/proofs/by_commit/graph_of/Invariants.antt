use Rattle.std.proofs.Common.{◌≡◌, length, map}
use Rattle.std.specs.Arc.{arc_value}
use Rattle.evaluate.specs.Hits.{graph_of}
use Rattle.evaluate.proofs.by_commit.graph_of.Given as goal

abbrev pub invariant-loop-rest : goal.invariant-loop-rest
invariant-loop-rest l = graph_of (map (λ g. (g.0, arc_value g.1)) l.rest) l.key ≡ graph_of (map (λ g. (g.0, arc_value g.1)) l.repos) l.key

abbrev pub decreases-loop-rest : goal.decreases-loop-rest
decreases-loop-rest l = length l.rest
