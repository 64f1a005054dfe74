use Rattle.std.proofs.Common.{◌<◌, sym, subst, ◌∙◌}
use Rattle.std.specs.Prelude.{Option, IfSome, vec_len, vec_capacity}
use Rattle.book.specs.declared.build.Open.{Open}
use Rattle.book.proofs.Going.{freed_book}
use Rattle.book.proofs.ledger.Book.free.Goals as goal

pub invariant_of-self : goal.invariant_of-self
invariant_of-self c = (
  (freed_book c.args.self.now c.in-Some.open c.free.new.self c.args.by c.args.build c.args.upto c.args.part c.self.view_is (sym c.take.ensures.value ∙ c.in-Some.is) c.requires c.free.ensures c.self.invariant.0).1,
  c.self.invariant.1,
  subst (λ (o : Option Open). IfSome o (λ x. vec_len c.self.inside.entries < vec_capacity c.self.inside.entries)) (sym c.take.ensures.value ∙ c.in-Some.is) c.self.invariant.2,
  c.self.invariant.3,
  c.self.invariant.4,
)
