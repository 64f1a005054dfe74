use Rattle.http_wire.proofs.ReadsBack.{reads-back}
use Rattle.http_wire.proofs.laws.a_reply_reads_back.Goals as goal

pub returns : goal.returns
returns c = reads-back
