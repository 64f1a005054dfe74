use Rattle.book.proofs.Staging.{piece-freed}
use Rattle.book.proofs.build.Open.free.Goals as goal

pub returns-in-Pieces : goal.returns-in-Pieces
returns-in-Pieces c = piece-freed c.args.self.now c.in-Pieces.pieces c.free.new.self c.args.part c.in-Piece.number c.in-Piece.is c.in-Pieces.is c.free.ensures
