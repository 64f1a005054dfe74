use Rattle.std.proofs.Common.{◌<◌, sym, subst, ◌∙◌}
use Rattle.std.specs.Prelude.{Option, IfSome, vec_len, vec_capacity}
use Rattle.book.specs.declared.build.Open.{Open}
use Rattle.std.specs.Arc.{arc_value}
use Rattle.book.proofs.Going.{put_book}
use Rattle.book.proofs.ledger.Book.put.Goals as goal

pub invariant_of-self : goal.invariant_of-self
invariant_of-self c = (
  (put_book c.args.self.now c.in-Some.open c.args.by c.args.build c.args.upto c.args.number (arc_value c.args.set) c.with_set.result c.self.view_is (sym c.take.ensures.value ∙ c.in-Some.is) c.requires.given c.requires.out c.requires.holds.stands c.with_set.ensures c.self.invariant.0).1,
  c.self.invariant.1,
  subst (λ (o : Option Open). IfSome o (λ x. vec_len c.self.inside.entries < vec_capacity c.self.inside.entries)) (sym c.take.ensures.value ∙ c.in-Some.is) c.self.invariant.2,
  c.self.invariant.3,
  c.self.invariant.4,
)

pub returns : goal.returns
returns c =
    (put_book c.args.self.now c.in-Some.open c.args.by c.args.build c.args.upto c.args.number (arc_value c.args.set) c.with_set.result c.self.view_is (sym c.take.ensures.value ∙ c.in-Some.is) c.requires.given c.requires.out c.requires.holds.stands c.with_set.ensures c.self.invariant.0).0
