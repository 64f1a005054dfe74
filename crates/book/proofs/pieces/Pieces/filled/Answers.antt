use Rattle.std.proofs.Common.{List, map, ap, ◌∙◌}
use Rattle.snapshot.specs.declared.job.Place.{Place}
use Rattle.book.specs.Pieces.{Placed, set_at}
use Rattle.book.proofs.Placing.{filled-is}
use Rattle.book.proofs.pieces.Pieces.filled.Goals as goal

pub returns-clause-of : goal.returns-clause-of
returns-clause-of c = λ b p a d.
    filled-is c.args.self.now (record { plan = c.in_ok-plan.plan; made = c.in_ok-made.made }) b p (c.in_ok-plan.ensures ∙ ap (λ (x : Placed). x.plan) c.self.view_is)
    (c.in_ok-made.ensures ∙ ap (λ (xs : List Place). map set_at xs) c.as_slice.ensures.value ∙ ap (λ (x : Placed). map set_at x.places) c.self.view_is) a d
