use Rattle.std.proofs.Common.{ℕ, ◌+◌, ◌≤◌, List, length, Global, sym, ap, subst, ◌∙◌}
use Rattle.std.specs.Arc.{arc_value}
use Rattle.std.specs.declared.sync.Arc.{Arc}
use Rattle.history.specs.declared.past.Past.{Past}
use Rattle.snapshot.specs.declared.snapshot.Snapshot.{Snapshot}
use Rattle.snapshot.specs.Snapshots.{StandsFor}
use Rattle.book.proofs.Opening.{finds_pushed}
use Rattle.book.proofs.ledger.Book.find_each.Goals as goal

pub loop-number-preserved : goal.loop-number-preserved
loop-number-preserved c = (
  finds_pushed (λ (a : Arc Snapshot Global) (p : List Past). StandsFor (arc_value a) p) c.args.self.now c.args.numbers.now c.loop-number.number-index c.loop-number.found.items c.push_reserved.new.self.items c.in_ok-kept.kept
      c.loop-number-test.true c.push_reserved.ensures.items c.loop-number.invariant.0 c.in_ok-kept.ensures,
  c.push_reserved.ensures.len ∙ ap (λ (n : ℕ). n + 1) c.loop-number.invariant.1,
  subst (λ (n : ℕ). length c.args.numbers.now ≤ n) (sym c.push_reserved.ensures.capacity) c.loop-number.invariant.2,
)
