use Rattle.std.proofs.Common.{◌≡◌}
use Rattle.tests_lock.proofs.lanes.has_all.Given as goal

-- the pass stays one of the lock
abbrev pub invariant-loop-owner : goal.invariant-loop-owner
invariant-loop-owner g l = l.pass.lock ≡ l.lock
