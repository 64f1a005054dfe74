use Rattle.book.proofs.Placing.{count-new}
use Rattle.book.proofs.pieces.Pieces.new.Goals as goal

pub invariant_of-result : goal.invariant_of-result
invariant_of-result c = count-new c.args.places.items c.as_slice.result.now c.count_undone-left.result c.as_slice.ensures.value c.requires c.count_undone-left.ensures
