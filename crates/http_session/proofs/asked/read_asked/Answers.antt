use Rattle.http_wire.proofs.Wholes.{head-refused, head-ended, head-truncated}
use Rattle.http_session.proofs.Streaming.{asked-behind, head-fault, head-cut, head-no_memory}
use Rattle.http_session.proofs.asked.read_asked.Goals as goal

pub returns-in-Head-clause-tells : goal.returns-in-Head-clause-tells
returns-in-Head-clause-tells g c =
    asked-behind c.args.settings.now.commits _ _ _ _ _ _ c.in-Head.request c.in-Head.rest c.read_behind.result c.read_head.new.held c.read_behind.new.held c.in-Head.ensures.tells c.read_behind.ensures.tells

pub returns-in-Refused-clause-tells : goal.returns-in-Refused-clause-tells
returns-in-Refused-clause-tells g c = head-refused _ _ _ _ _ c.in-Refused.fault _ c.in-Refused.ensures.tells

pub returns-in-Ended-clause-tells : goal.returns-in-Ended-clause-tells
returns-in-Ended-clause-tells g c = head-ended _ _ _ _ _ _ c.in-Ended.ensures.tells

pub returns-in-Truncated-clause-tells : goal.returns-in-Truncated-clause-tells
returns-in-Truncated-clause-tells g c = head-truncated _ _ _ _ _ _ c.in-Truncated.ensures.tells

pub returns-in-ReadFault-clause-tells : goal.returns-in-ReadFault-clause-tells
returns-in-ReadFault-clause-tells g c = head-fault _ _ _ _ _ _ c.in-ReadFault.ensures.tells

pub returns-in-WriteFault-clause-tells : goal.returns-in-WriteFault-clause-tells
returns-in-WriteFault-clause-tells g c = head-cut _ _ _ _ _ c.in-WriteFault.out _ c.in-WriteFault.ensures.tells

pub returns-in-Memory-clause-tells : goal.returns-in-Memory-clause-tells
returns-in-Memory-clause-tells g c = head-no_memory _ _ _ _ _ _ c.in-Memory.ensures.tells
