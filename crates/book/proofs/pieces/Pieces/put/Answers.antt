use Rattle.std.specs.Arc.{arc_value}
use Rattle.book.proofs.Placing.{place-made}
use Rattle.book.proofs.pieces.Pieces.put.Goals as goal

pub invariant_of-self : goal.invariant_of-self
invariant_of-self c =
    (place-made (arc_value c.self.inside.plan) c.self.inside.places.items c.args.self.now c.args.set c.self.inside.from c.self.inside.out c.self.inside.left c.args.number c.args.by c.self.view_is c.requires c.self.invariant).2
