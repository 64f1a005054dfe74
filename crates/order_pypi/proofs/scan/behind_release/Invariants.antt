use Rattle.std.proofs.Common.{◌≡◌, length}
use Rattle.order_pypi.specs.Grammar.{behind_release}
use Rattle.order_pypi.proofs.scan.behind_release.Given as goal

abbrev pub invariant-loop-rest : goal.invariant-loop-rest
invariant-loop-rest l = behind_release l.rest ≡ behind_release l.text

abbrev pub decreases-loop-rest : goal.decreases-loop-rest
decreases-loop-rest l = length l.rest
