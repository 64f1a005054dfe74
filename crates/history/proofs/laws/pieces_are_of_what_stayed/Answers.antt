use Rattle.history.proofs.Pieces.{carried, extended}
use Rattle.history.proofs.laws.pieces_are_of_what_stayed.Goals as goal

pub returns-clause-carry : goal.returns-clause-carry
returns-clause-carry c = carried

pub returns-clause-extend : goal.returns-clause-extend
returns-clause-extend c = extended
