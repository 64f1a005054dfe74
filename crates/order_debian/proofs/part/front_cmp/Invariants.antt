use Rattle.std.proofs.Common.{◌≡◌, length}
use Rattle.std.specs.Cmp.Lexicographic.{slice_cmp}
use Rattle.std.specs.Ordering.{nat_cmp}
use Rattle.order_debian.specs.Turns.{ranks}
use Rattle.order_debian.proofs.part.front_cmp.Given as goal

abbrev pub invariant-loop-a_rest : goal.invariant-loop-a_rest
invariant-loop-a_rest l = slice_cmp nat_cmp (ranks l.a_rest) (ranks l.b_rest) ≡ slice_cmp nat_cmp (ranks l.a) (ranks l.b)

abbrev pub decreases-loop-a_rest : goal.decreases-loop-a_rest
decreases-loop-a_rest l = length l.a_rest
