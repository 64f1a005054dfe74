use Rattle.std.proofs.Common.{◌≡◌, ◌-◌, ◌<◌, length, refl, sym, subst, ◌∙◌, arith}
use Rattle.std.specs.Prelude.{Option, IfSome, vec_len, vec_capacity}
use Rattle.std.specs.Arc.{arc_value}
use Rattle.history.specs.Entries.{newest, snap}
use Rattle.snapshot.specs.declared.snapshot.Snapshot.{Snapshot}
use Rattle.snapshot.specs.Snapshots.{StandsFor}
use Rattle.book.specs.declared.build.Open.{Open}
use Rattle.book.specs.Books.{values_of}
use Rattle.book.proofs.Numbers.{next_small, shared_at, shared_length, some_kept, newest_here}
use Rattle.book.proofs.Going.{handed_book}
use Rattle.book.proofs.ledger.Book.hand_out.Goals as goal

pub overflow_add-self-inside : goal.overflow_add-self-inside
overflow_add-self-inside c = let k = next_small c.self.invariant.0 in omega (arith, k)

pub invariant_of-self-2 : goal.invariant_of-self-2
invariant_of-self-2 c =
    let long : length (values_of c.self.inside.kept.items) ≡ length c.self.inside.kept.items = shared_length c.self.inside.kept.items in
    let some = some_kept c.self.invariant.0 in
    let n = newest_here c.args.self.now (c.len.result - 1) (arc_value c.index-base.result.now) c.self.view_is c.self.invariant.0 (omega (arith, long, some.0, c.len.ensures, c.self.inside.kept.ok.0)) in
    let stands : StandsFor (arc_value c.index-base.result.now) (snap c.args.self.now.history (newest c.args.self.now.history)) =
    subst (λ (x : Snapshot). StandsFor x (snap c.args.self.now.history (newest c.args.self.now.history)))
    (shared_at c.self.inside.kept.items (c.len.result - 1) c.index-base.result.now c.index-base.result.now c.index-base.ensures refl) n.1 in
    let done = handed_book c.args.self.now c.in-Some.open c.hand_out-handed.new.self (arc_value c.index-base.result.now) c.args.by c.hand_out-handed.result c.self.view_is (sym c.take.ensures.value ∙ c.in-Some.is) c.requires.given stands
    c.hand_out-handed.ensures c.self.invariant.0 in (
      done.1,
      c.self.invariant.1,
      subst (λ (o : Option Open). IfSome o (λ x. vec_len c.self.inside.entries < vec_capacity c.self.inside.entries)) (sym c.take.ensures.value ∙ c.in-Some.is) c.self.invariant.2,
      c.self.invariant.3,
      c.self.invariant.4,
    )

pub returns : goal.returns
returns c =
    let long : length (values_of c.self.inside.kept.items) ≡ length c.self.inside.kept.items = shared_length c.self.inside.kept.items in
    let some = some_kept c.self.invariant.0 in
    let n = newest_here c.args.self.now (c.len.result - 1) (arc_value c.index-base.result.now) c.self.view_is c.self.invariant.0 (omega (arith, long, some.0, c.len.ensures, c.self.inside.kept.ok.0)) in
    let stands : StandsFor (arc_value c.index-base.result.now) (snap c.args.self.now.history (newest c.args.self.now.history)) =
    subst (λ (x : Snapshot). StandsFor x (snap c.args.self.now.history (newest c.args.self.now.history)))
    (shared_at c.self.inside.kept.items (c.len.result - 1) c.index-base.result.now c.index-base.result.now c.index-base.ensures refl) n.1 in
    let done = handed_book c.args.self.now c.in-Some.open c.hand_out-handed.new.self (arc_value c.index-base.result.now) c.args.by c.hand_out-handed.result c.self.view_is (sym c.take.ensures.value ∙ c.in-Some.is) c.requires.given stands
    c.hand_out-handed.ensures c.self.invariant.0 in
    done.0
