use Rattle.std.proofs.Common.{arith}
use Rattle.book.proofs.Numbers.{next_small}
use Rattle.book.proofs.ledger.Book.owner_of.Goals as goal

pub overflow_add-self-inside : goal.overflow_add-self-inside
overflow_add-self-inside c = let k = next_small c.self.invariant.0 in omega (arith, k)
