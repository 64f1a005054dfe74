use Rattle.http_wire.proofs.Replies.{appends-front}
use Rattle.http_wire.proofs.write.write_both.Goals as goal

pub returns-in-Err-write_whole-clause-err : goal.returns-in-Err-write_whole-clause-err
returns-in-Err-write_whole-clause-err g c = appends-front _ _ _ c.args.head.now c.args.body.now _ c.in-Ok.ensures.ok c.in-Err-write_whole.ensures.err
