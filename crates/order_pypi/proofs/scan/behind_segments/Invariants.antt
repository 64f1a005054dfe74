use Rattle.std.proofs.Common.{◌≡◌, length}
use Rattle.order_pypi.specs.Grammar.{behind_segments}
use Rattle.order_pypi.proofs.scan.behind_segments.Given as goal

abbrev pub invariant-loop-rest : goal.invariant-loop-rest
invariant-loop-rest l = behind_segments l.rest ≡ behind_segments l.text

abbrev pub decreases-loop-rest : goal.decreases-loop-rest
decreases-loop-rest l = length l.rest
