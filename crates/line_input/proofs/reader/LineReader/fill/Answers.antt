use Rattle.std.proofs.Common.{refl, ◌∙◌}
use Rattle.line_input.proofs.Standing.{keeps_all}
use Rattle.line_input.proofs.Filling.{fills_none, fills_err}
use Rattle.line_input.proofs.reader.LineReader.fill.Goals as goal

pub returns-then-is_over-clause-fills : goal.returns-then-is_over-clause-fills
returns-then-is_over-clause-fills g c =
    fills_none _ _ _ _ _ refl refl (keeps_all _) (refl, refl, refl, refl) (λ x. absurd cc) (λ x. absurd cc) (λ x. c.if-is_over.ensures.over refl)

pub returns-in_err-make_room-clause-fills : goal.returns-in_err-make_room-clause-fills
returns-in_err-make_room-clause-fills g c =
    fills_err _ _ _ _ _ c.from_residual.ensures.0 c.in_err-make_room.ensures.items refl (keeps_all _) (refl, refl, refl, refl)

pub returns-in_err-count-clause-fills : goal.returns-in_err-count-clause-fills
returns-in_err-count-clause-fills g c =
    fills_err _ _ _ _ _ c.from_residual-in_err-count.ensures.0 (c.in_err-count.ensures.err.0 ∙ c.in_ok-make_room.ensures.items) refl c.in_err-count.ensures.err.1 (refl, refl, refl, refl)
