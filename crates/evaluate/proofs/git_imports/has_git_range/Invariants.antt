use Rattle.std.proofs.Common.{◌≡◌, length}
use Rattle.evaluate.specs.Kept.{has_git_range}
use Rattle.evaluate.proofs.git_imports.has_git_range.Given as goal

abbrev pub invariant-loop-rest : goal.invariant-loop-rest
invariant-loop-rest l = has_git_range l.rest ≡ has_git_range l.entries

abbrev pub decreases-loop-rest : goal.decreases-loop-rest
decreases-loop-rest l = length l.rest
