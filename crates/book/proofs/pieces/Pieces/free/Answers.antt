use Rattle.std.proofs.Common.{arith}
use Rattle.std.specs.Arc.{arc_value}
use Rattle.book.proofs.Placing.{place-freed}
use Rattle.book.proofs.pieces.Pieces.free.Goals as goal

pub invariant_of-self : goal.invariant_of-self
invariant_of-self c =
    (place-freed (arc_value c.self.inside.plan) c.self.inside.places.items c.args.self.now c.self.inside.from c.args.number c.self.inside.out c.self.inside.left c.args.number c.args.by c.self.view_is c.requires c.self.invariant
    (omega (arith, c.if-index-self.true)) (omega arith)).1

pub invariant_of-self-else-index-self : goal.invariant_of-self-else-index-self
invariant_of-self-else-index-self c =
    (place-freed (arc_value c.self.inside.plan) c.self.inside.places.items c.args.self.now c.self.inside.from c.self.inside.from c.self.inside.out c.self.inside.left c.args.number c.args.by c.self.view_is c.requires c.self.invariant
    (omega arith) c.if-index-self.false).1
