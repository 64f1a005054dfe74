use Rattle.std.proofs.Common.{◌≡◌, ◌≤◌}
use Rattle.serving.proofs.service.start_lanes.Given as goal

-- the pass stays one of the lock, and the listener's counts don't fall
abbrev pub invariant-loop : goal.invariant-loop
invariant-loop g l = record {
  lock : l.mine.lock ≡ l.shared.lock.now;
  faults : g.L.Listener.faults l.initial.listener ≤ g.L.Listener.faults l.listener;
  closed : g.L.Listener.closed l.initial.listener ≤ g.L.Listener.closed l.listener;
}
