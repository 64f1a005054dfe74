use Rattle.http_wire.proofs.Replies.{memory-text}
use Rattle.http_wire.proofs.write.write_memory.Goals as goal

pub returns-clause-ok : goal.returns-clause-ok
returns-clause-ok g c = rw (← memory-text) c.write_whole.ensures.ok

pub returns-clause-err : goal.returns-clause-err
returns-clause-err g c = rw (← memory-text) c.write_whole.ensures.err

pub returns-clause-within : goal.returns-clause-within
returns-clause-within g c = rw (← memory-text) c.write_whole.ensures.within
