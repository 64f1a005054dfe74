use Rattle.http_wire.proofs.Wholes.{head-refused, head-ended, head-truncated, body-whole, body-refused, body-truncated, body-fault, body-no_memory}
use Rattle.http_wire.proofs.read.read_request.Goals as goal

pub returns-in-Whole-clause-tells : goal.returns-in-Whole-clause-tells
returns-in-Whole-clause-tells g c =
    rw c.from_vec.ensures (body-whole c.args.room _ _ _ _ _ c.in-Head.request c.in-Head.rest c.in-Whole.body _ _ c.in-Head.ensures.tells c.in-Whole.ensures.tells)

pub returns-in-Refused-read_body-clause-tells : goal.returns-in-Refused-read_body-clause-tells
returns-in-Refused-read_body-clause-tells g c =
    body-refused c.args.room _ _ _ _ _ c.in-Head.request c.in-Head.rest c.in-Refused-read_body.fault _ _ c.in-Head.ensures.tells c.in-Refused-read_body.ensures.tells

pub returns-in-Truncated-read_body-clause-tells : goal.returns-in-Truncated-read_body-clause-tells
returns-in-Truncated-read_body-clause-tells g c =
    body-truncated c.args.room _ _ _ _ _ c.in-Head.request c.in-Head.rest _ _ c.in-Head.ensures.tells c.in-Truncated-read_body.ensures.tells

pub returns-in-Refused-clause-tells : goal.returns-in-Refused-clause-tells
returns-in-Refused-clause-tells g c = head-refused c.args.room _ _ _ _ c.in-Refused.fault _ c.in-Refused.ensures.tells

pub returns-in-Ended-clause-tells : goal.returns-in-Ended-clause-tells
returns-in-Ended-clause-tells g c = head-ended c.args.room _ _ _ _ _ c.in-Ended.ensures.tells

pub returns-in-Truncated-clause-tells : goal.returns-in-Truncated-clause-tells
returns-in-Truncated-clause-tells g c = head-truncated c.args.room _ _ _ _ _ c.in-Truncated.ensures.tells
