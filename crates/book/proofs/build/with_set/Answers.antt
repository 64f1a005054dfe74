use Rattle.book.proofs.Staging.{filled-by}
use Rattle.book.proofs.build.with_set.Goals as goal

pub returns : goal.returns
returns c = filled-by c.in-Pieces.pieces c.put.new.self c.args.number c.args.set c.args.stage c.stage_of.result c.in-Pieces.is c.put.ensures c.stage_of.ensures
