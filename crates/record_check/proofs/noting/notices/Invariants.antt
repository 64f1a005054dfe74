use Rattle.std.proofs.Common.{◌≡◌, ◌+◌, ◌++◌, length}
use Rattle.record_check.specs.Notices.{entries_notices, notices}
use Rattle.record_check.proofs.noting.notices.Given as goal

abbrev pub invariant-loop-rest : goal.invariant-loop-rest
invariant-loop-rest l =
    (l.found.items ++ entries_notices l.number l.rest ≡ notices l.advisory) × (l.number + length l.rest ≡ length l.advisory.affected)

abbrev pub decreases-loop-rest : goal.decreases-loop-rest
decreases-loop-rest l = length l.rest
