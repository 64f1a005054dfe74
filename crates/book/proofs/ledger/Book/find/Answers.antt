use Rattle.std.proofs.Common.{ℕ, ◌-◌, ◌≤◌, ap, subst, arith}
use Rattle.std.specs.Arc.{arc_value}
use Rattle.history.specs.Entries.{snap}
use Rattle.snapshot.specs.declared.snapshot.Snapshot.{Snapshot}
use Rattle.snapshot.specs.Snapshots.{StandsFor}
use Rattle.book.proofs.Numbers.{next_small, shared_at, found_here}
use Rattle.book.proofs.ledger.Book.find.Goals as goal

pub overflow_add-newest : goal.overflow_add-newest
overflow_add-newest c = let k = next_small c.self.invariant.0 in omega (arith, k)

pub returns : goal.returns
returns c =
    let f = found_here c.args.self.now c.args.number (c.args.number - c.saturating_sub-oldest.result) (arc_value c.index-kept.result.now) c.self.view_is c.self.invariant.0 c.if-number-newest.false
    (subst (λ (n : ℕ). n ≤ c.args.number) c.saturating_sub-oldest.ensures c.if-number-oldest.false) (ap (λ (n : ℕ). c.args.number - n) c.saturating_sub-oldest.ensures) in (
      f.0,
      subst (λ (x : Snapshot). StandsFor x (snap c.args.self.now.history c.args.number))
          (shared_at c.self.inside.kept.items (c.args.number - c.saturating_sub-oldest.result) c.index-kept.result.now c.in_ok-try_clone.field-0 c.index-kept.ensures c.in_ok-try_clone.ensures) f.1,
    )
