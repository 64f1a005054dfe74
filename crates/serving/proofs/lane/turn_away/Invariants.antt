use Rattle.std.proofs.Common.{◌≡◌, ◌≤◌, ◌<◌}
use Rattle.serving.specs.Serving.{RoseBy}
use Rattle.serving.proofs.lane.turn_away.Given as goal

-- so many accepts failed, and the listener's counts show it
abbrev pub invariant-loop : goal.invariant-loop
invariant-loop g l = record {
  few : l.failed < 100;
  faults : RoseBy l.failed (g.L.Listener.faults l.initial.listener) (g.L.Listener.faults l.listener);
  closed : g.L.Listener.closed l.initial.listener ≤ g.L.Listener.closed l.listener;
}
