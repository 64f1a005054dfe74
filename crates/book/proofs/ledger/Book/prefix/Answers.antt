use Rattle.std.proofs.Common.{◌≡◌, ◌-◌, length, refl, subst, arith}
use Rattle.std.specs.Arc.{arc_value}
use Rattle.history.specs.Entries.{imports, newest, snap}
use Rattle.snapshot.specs.declared.snapshot.Snapshot.{Snapshot}
use Rattle.snapshot.specs.Snapshots.{StandsFor}
use Rattle.impact_job.specs.Tables.{IsPrefixOf}
use Rattle.book_model.specs.State.{State}
use Rattle.book.specs.Books.{values_of, state_of}
use Rattle.book.specs.Entries.{history_of}
use Rattle.book.proofs.Numbers.{shared_at, shared_length, some_kept, newest_here}
use Rattle.book.proofs.Opening.{prefix_way}
use Rattle.book.proofs.ledger.Book.prefix.Goals as goal

pub returns : goal.returns
returns c =
    let long : length (values_of c.self.inside.kept.items) ≡ length c.self.inside.kept.items = shared_length c.self.inside.kept.items in
    let some = some_kept c.self.invariant.0 in
    let n = newest_here (state_of c.self.inside.settings (history_of c.self.inside.entries.items) c.self.inside.callers c.self.inside.build c.self.inside.note) (c.len.result - 1) (arc_value c.index-base.result.now) refl c.self.invariant.0
    (omega (arith, long, some.0, c.len.ensures, c.self.inside.kept.ok.0)) in
    let stands : StandsFor (arc_value c.index-base.result.now) (snap (history_of c.self.inside.entries.items) (newest (history_of c.self.inside.entries.items))) =
    subst (λ (x : Snapshot). StandsFor x (snap (history_of c.self.inside.entries.items) (newest (history_of c.self.inside.entries.items))))
    (shared_at c.self.inside.kept.items (c.len.result - 1) c.index-base.result.now c.index-base.result.now c.index-base.ensures refl) n.1 in
    subst (λ (s : State). IsPrefixOf c.in_ok-prefix.prefix (snap s.history (newest s.history)) (imports s.history)) c.self.view_is
    (prefix_way c.self.inside.entries.items c.deref.result.now c.in_ok-prefix.prefix (arc_value c.index-base.result.now) c.deref.ensures.value c.self.invariant.0 c.self.invariant.4 stands c.in_ok-prefix.ensures)
