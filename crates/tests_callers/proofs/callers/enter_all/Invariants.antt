use Rattle.std.proofs.Common.{◌≡◌}
use Rattle.tests_callers.proofs.callers.enter_all.Given as goal

-- the pass stays one of the lock
abbrev pub invariant-loop : goal.invariant-loop
invariant-loop g l = l.mine.lock ≡ l.lock
