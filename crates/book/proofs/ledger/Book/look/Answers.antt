use Rattle.std.proofs.Common.{◌≡◌, ◌-◌, length, refl, subst, arith}
use Rattle.std.specs.Arc.{arc_value}
use Rattle.history.specs.Entries.{newest, snap}
use Rattle.snapshot.specs.declared.snapshot.Snapshot.{Snapshot}
use Rattle.snapshot.specs.Snapshots.{StandsFor}
use Rattle.book.specs.Books.{values_of}
use Rattle.book.proofs.Numbers.{shared_at, shared_length, some_kept, newest_here}
use Rattle.book.proofs.ledger.Book.look.Goals as goal

pub returns-in-Ok-find_each : goal.returns-in-Ok-find_each
returns-in-Ok-find_each c =
    let long : length (values_of c.self.inside.kept.items) ≡ length c.self.inside.kept.items = shared_length c.self.inside.kept.items in
    let some = some_kept c.self.invariant.0 in
    let n = newest_here c.args.self.now (c.len.result - 1) (arc_value c.index.result.now) c.self.view_is c.self.invariant.0 (omega (arith, long, some.0, c.len.ensures, c.self.inside.kept.ok.0)) in (
      n.0,
      subst (λ (x : Snapshot). StandsFor x (snap c.args.self.now.history (newest c.args.self.now.history)))
          (shared_at c.self.inside.kept.items (c.len.result - 1) c.index.result.now c.in-Ok.snapshot c.index.ensures c.in-Ok.ensures) n.1,
      c.in-Ok-find_each.ensures,
      refl,
    )
