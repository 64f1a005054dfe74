use Rattle.session_model.proofs.Sessions.{session-run}
use Rattle.session_model.proofs.laws.a_session_is_a_run.Goals as goal

pub returns : goal.returns
returns c = session-run
