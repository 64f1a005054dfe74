use Rattle.http_wire.proofs.Settling.{part-then, part-refused, part-truncated, part-fault}
use Rattle.http_wire.proofs.part.next_part.Goals as goal

pub returns-in-Stage-clause-gives : goal.returns-in-Stage-clause-gives
returns-in-Stage-clause-gives g c =
    part-then c.args.rest.now c.take_part.new.rest c.in-Stage.stage _ _ _ _ _ c.take_part.result c.take_part.ensures.limit c.in-Stage.ensures.moves c.take_part.ensures.gives

pub returns-in-Refused-clause-gives : goal.returns-in-Refused-clause-gives
returns-in-Refused-clause-gives g c = part-refused c.args.rest.now c.in-Refused.fault _ _ _ c.in-Refused.ensures.moves

pub returns-in-Truncated-clause-gives : goal.returns-in-Truncated-clause-gives
returns-in-Truncated-clause-gives g c = part-truncated c.args.rest.now _ _ _ c.in-Truncated.ensures.moves

pub returns-in-ReadFault-clause-gives : goal.returns-in-ReadFault-clause-gives
returns-in-ReadFault-clause-gives g c = part-fault c.args.rest.now _ _ _
