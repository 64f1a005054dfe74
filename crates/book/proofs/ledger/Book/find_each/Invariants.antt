use Rattle.std.proofs.Common.{◌≡◌, ◌≤◌, length, take}
use Rattle.std.specs.Prelude.{vec_len, vec_capacity}
use Rattle.std.specs.Arc.{arc_value}
use Rattle.book_model.specs.Steps.{FindsEach}
use Rattle.snapshot.specs.Snapshots.{StandsFor}
use Rattle.book.proofs.ledger.Book.find_each.Given as goal

-- what the numbers so far find, and room for the rest
abbrev pub invariant-loop-number : goal.invariant-loop-number
invariant-loop-number l = FindsEach (λ a p. StandsFor (arc_value a) p) l.self (take l.number-index l.numbers) l.found.items
    × (vec_len l.found ≡ l.number-index) × (length l.numbers ≤ vec_capacity l.found)
