use Rattle.book.proofs.Placing.{walk-on, walk-here, walk-end}
use Rattle.book.proofs.pieces.first_free.Goals as goal

pub returns-then-is_free : goal.returns-then-is_free
returns-then-is_free c = walk-here c.args.places.now c.loop-index.index c.index-places-index.result c.is_free.result c.loop-index.invariant c.loop-index-test.true c.index-places-index.is c.is_free.ensures c.if-is_free.true

pub loop-index-preserved : goal.loop-index-preserved
loop-index-preserved c = walk-on c.args.places.now c.loop-index.index c.index-places-index.result c.is_free.result c.loop-index.invariant c.loop-index-test.true c.index-places-index.is c.is_free.ensures c.if-is_free.false

pub returns : goal.returns
returns c = walk-end c.args.places.now c.loop-index.index c.loop-index.invariant c.loop-index-test.false
