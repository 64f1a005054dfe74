use Rattle.http_session.proofs.Serving.{writes-whole}
use Rattle.http_session.proofs.serve.send.Goals as goal

pub returns-in-Ok-clause-writes : goal.returns-in-Ok-clause-writes
returns-in-Ok-clause-writes g c = writes-whole _ _ c.behind.result _ c.behind.ensures.no_fault c.in-Ok.ensures.ok
