use Rattle.std.proofs.Common.{refl}
use Rattle.http_wire.proofs.Openings.{head-fits, tells-head, tells-too_long, tells-ended, tells-truncated, tells-fault}
use Rattle.http_wire.proofs.opening.read_opening.Goals as goal

pub take_head-requires : goal.take_head-requires
take_head-requires g c = head-fits c.find_head.new.held _ _ _ refl c.in-Head.ensures.found

pub returns-in-Head-clause-tells : goal.returns-in-Head-clause-tells
returns-in-Head-clause-tells g c = tells-head _ _ _ _ _ c.find_head.new.held _ _ c.in-Head.ensures.found c.in-Head.ensures.text c.take_head.ensures.held c.take_head.ensures.judges

pub returns-in-TooLong-clause-tells : goal.returns-in-TooLong-clause-tells
returns-in-TooLong-clause-tells g c = tells-too_long _ _ _ c.find_head.new.held c.in-TooLong.ensures.found.0 c.in-TooLong.ensures.found.1 c.in-TooLong.ensures.text

pub returns-in-Ended-clause-tells : goal.returns-in-Ended-clause-tells
returns-in-Ended-clause-tells g c =
    let f = c.in-Ended.ensures.found in
    tells-ended _ _ _ c.find_head.new.held f.0 f.1 f.2 c.in-Ended.ensures.text

pub returns-in-Truncated-clause-tells : goal.returns-in-Truncated-clause-tells
returns-in-Truncated-clause-tells g c =
    let f = c.in-Truncated.ensures.found in
    tells-truncated _ _ _ c.find_head.new.held f.0 f.1 f.2 f.3 c.in-Truncated.ensures.text

pub returns-in-ReadFault-clause-tells : goal.returns-in-ReadFault-clause-tells
returns-in-ReadFault-clause-tells g c = tells-fault _ _ _ c.find_head.new.held c.in-ReadFault.ensures.found c.in-ReadFault.ensures.text
