use Rattle.std.proofs.Common.{List, map, ap, ◌∙◌, arith}
use Rattle.std.specs.List.{position_or_len}
use Rattle.book_model.specs.State.{is_free}
use Rattle.snapshot.specs.declared.job.Place.{Place}
use Rattle.snapshot.specs.Jobs.{cell_of}
use Rattle.book.proofs.Placing.{place-out}
use Rattle.book.proofs.Staging.{piece-goes}
use Rattle.book.proofs.pieces.Pieces.hand_out.Goals as goal

pub invariant_of-self-2 : goal.invariant_of-self-2
invariant_of-self-2 c =
    place-out c.self.inside.places.items c.self.inside.from c.self.inside.out c.self.inside.left c.first_free-index.result c.args.by c.self.invariant
    (c.first_free-index.ensures ∙ ap (λ (xs : List Place). position_or_len is_free (map cell_of xs)) c.as_slice.ensures.value)
    (omega (arith, c.if-index-len.false, c.len.ensures, c.self.inside.places.ok.0))

pub returns : goal.returns
returns c =
    piece-goes c.self.inside.plan c.in_ok-plan.plan c.self.inside.places.items c.args.self.now c.args.build c.args.by c.first_free-index.result c.in-Ok.number c.self.view_is
    (c.first_free-index.ensures ∙ ap (λ (xs : List Place). position_or_len is_free (map cell_of xs)) c.as_slice.ensures.value)
    (omega (arith, c.if-index-len.false, c.len.ensures, c.self.inside.places.ok.0)) c.in-Ok.ensures.1 c.in_ok-plan.ensures
