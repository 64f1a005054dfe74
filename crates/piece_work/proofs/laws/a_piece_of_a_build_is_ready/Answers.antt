use Rattle.piece_work.proofs.Readiness.{piece-ready, piece-events}
use Rattle.piece_work.proofs.laws.a_piece_of_a_build_is_ready.Goals as goal

pub returns-clause-ready : goal.returns-clause-ready
returns-clause-ready c piece b p front x = piece-ready piece b p front x

pub returns-clause-events : goal.returns-clause-events
returns-clause-events c piece b p x = piece-events piece b p x

pub returns-clause-graph : goal.returns-clause-graph
returns-clause-graph c piece b p x = x.its_graph
