use Rattle.std.proofs.Common.{◌≡◌, ◌+◌, length}
use Rattle.order_debian.specs.Turns.{weights, weights_cmp}
use Rattle.order_debian.proofs.part.part_cmp.Given as goal

abbrev pub invariant-loop-a_rest : goal.invariant-loop-a_rest
invariant-loop-a_rest l = weights_cmp (weights l.a_rest) (weights l.b_rest) ≡ weights_cmp (weights l.a) (weights l.b)

abbrev pub decreases-loop-a_rest : goal.decreases-loop-a_rest
decreases-loop-a_rest l = length l.a_rest + length l.b_rest
