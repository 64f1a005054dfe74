use Rattle.fast_export.proofs.Positions.{is_position}
use Rattle.fast_export.proofs.line.index_of.Goals as goal

pub returns : goal.returns
returns c = is_position _ c.args.text.now _ c.memchr.ensures
