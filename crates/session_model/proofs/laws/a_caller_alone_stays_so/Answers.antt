use Rattle.session_model.proofs.Apart.{run-apart, run-alone, session-apart}
use Rattle.session_model.proofs.laws.a_caller_alone_stays_so.Goals as goal

pub returns-clause-run : goal.returns-clause-run
returns-clause-run c = run-apart

pub returns-clause-alone : goal.returns-clause-alone
returns-clause-alone c = run-alone

pub returns-clause-session : goal.returns-clause-session
returns-clause-session c = session-apart
