use Rattle.std.proofs.Common.{◌≡◌, ◌≤◌, ◌<◌}
use Rattle.std.specs.Io.KnownBytes.{prepend_known}
use Rattle.session_model.specs.Sessions.{SoFar}
use Rattle.http_session.proofs.session.serve_all.Given as goal

abbrev pub invariant-requests : goal.invariant-requests
invariant-requests g l = record {
  some : 0 < l.left;
  same : (g.D.Desk.caller l.desk).settings ≡ l.settings;
  so_far : SoFar l.settings l.left (g.D.Desk.caller l.initial.desk) (g.D.Desk.caller l.desk) (g.S.Source.left l.initial.source) (g.K.Sink.held l.initial.sink)
      (prepend_known l.held (g.S.Source.left l.source)) (g.K.Sink.held l.sink) l.marks.points.items l.marks.signs.items;
  read_later : g.S.Source.faults l.initial.source ≤ g.S.Source.faults l.source;
  write_later : g.K.Sink.faults l.initial.sink ≤ g.K.Sink.faults l.sink;
}

abbrev pub decreases-requests : goal.decreases-requests
decreases-requests g l = l.left
