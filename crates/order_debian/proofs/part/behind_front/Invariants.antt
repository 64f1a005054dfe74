use Rattle.std.proofs.Common.{◌≡◌, length}
use Rattle.order_debian.specs.Cuts.{behind_front}
use Rattle.order_debian.proofs.part.behind_front.Given as goal

abbrev pub invariant-loop-rest : goal.invariant-loop-rest
invariant-loop-rest l = behind_front l.rest ≡ behind_front l.part

abbrev pub decreases-loop-rest : goal.decreases-loop-rest
decreases-loop-rest l = length l.rest
