use Rattle.std.proofs.Common.{◌∙◌}
use Rattle.tests_desks.proofs.Staying.{session-goes}
use Rattle.tests_desks.proofs.session.serve.Goals as goal

pub returns-clause-lock : goal.returns-clause-lock
returns-clause-lock g c = (session-goes _ _ _ _ _ _ _ _ _ _ c.point-known.ensures.known.legal c.serve_session-end.ensures.session).lock

pub returns-clause-settings : goal.returns-clause-settings
returns-clause-settings g c = (session-goes _ _ _ _ _ _ _ _ _ _ c.point-known.ensures.known.legal c.serve_session-end.ensures.session).settings ∙ c.requires
