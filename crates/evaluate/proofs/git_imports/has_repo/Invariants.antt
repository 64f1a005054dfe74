use Rattle.std.proofs.Common.{◌≡◌, length}
use Rattle.evaluate.specs.Kept.{has_repo}
use Rattle.evaluate.proofs.git_imports.has_repo.Given as goal

abbrev pub invariant-loop-rest : goal.invariant-loop-rest
invariant-loop-rest l = has_repo l.rest ≡ has_repo l.ranges

abbrev pub decreases-loop-rest : goal.decreases-loop-rest
decreases-loop-rest l = length l.rest
