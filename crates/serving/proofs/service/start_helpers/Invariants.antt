use Rattle.std.proofs.Common.{◌≡◌}
use Rattle.serving.proofs.service.start_helpers.Given as goal

-- the pass stays one of the lock
abbrev pub invariant-loop : goal.invariant-loop
invariant-loop g l = l.mine.lock ≡ l.shared.lock.now
