use Rattle.std.proofs.Common.{◌∙◌}
use Rattle.http_wire.proofs.Lengths.{length-is}
use Rattle.http_wire.proofs.words.length_value.Goals as goal

pub returns : goal.returns
returns c = c.read_u64_in.ensures.value ∙ length-is c.args.text.now
