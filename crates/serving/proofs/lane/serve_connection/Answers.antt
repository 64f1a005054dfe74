use Rattle.std.proofs.Common.{◌∙◌}
use Rattle.serving.proofs.Settings.{settings_stay}
use Rattle.serving.proofs.lane.serve_connection.Goals as goal

pub returns-clause-same : goal.returns-clause-same
returns-clause-same g c =
    c.drain-drained.ensures.works.goes.settings
    ∙ (settings_stay (g.D.Desk.caller c.args.desk.now) (g.D.Desk.caller c.serve_session-session.new.desk) _ _ c.point-known.ensures.known.legal c.a_run_is_told_by_its_points.ensures.goes
    (c.a_session_is_a_run.ensures _ _ _ _ _ _ _ _ _ _ c.serve_session-session.ensures.session)
    ∙ c.requires.same)
