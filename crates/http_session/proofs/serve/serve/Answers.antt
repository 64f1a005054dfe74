use Rattle.std.proofs.Common.{◌≡◌, ℕ, Bool, ◌||◌, List, [], ◌∷◌, ◌++◌, Ok, ap, sym, subst, ◌∙◌}
use Rattle.session_model.specs.declared.sign.Sign.{Sign}
use Rattle.session_model.specs.Ends.{GoesOn}
use Rattle.desk_answers.specs.Gives.{Gives}
use Rattle.http_session.proofs.Serving.{answered, same-close}
use Rattle.http_session.proofs.serve.serve.Goals as goal
use Rattle.http_session.proofs.serve.serve.Goals.{then-close, else-close}

pub returns-in-Ok-answer-clause-serves : goal.returns-in-Ok-answer-clause-serves
returns-in-Ok-answer-clause-serves g c = λ q is.
    let same = same-close c.args.settings.now.commits c.args.request q c.args.come is in
    let closes : c.if-close.answer ≡ (q.close || c.args.last) = elim c.if-close.branch [
      | then-close w ↦ w.answer-is ∙ w.if-close.true ∙ sym (ap (λ (b : Bool). b || c.args.last) (same ∙ w.if-close.true))
      | else-close w ↦ w.answer-is ∙ sym (ap (λ (b : Bool). b || c.args.last) (same ∙ w.if-close.false))
    ] in
    answered c.args.last (g.D.Desk.caller c.args.desk.now) (g.D.Desk.caller c.answer.new.desk) q c.in-Ok-answer.answered (g.K.Sink.held c.args.sink.now) (g.K.Sink.held c.send.new.sink) c.send.result c.point.result
    c.args.marks.now.points.items c.mark.new.marks.points.items c.args.marks.now.signs.items c.mark.new.marks.signs.items
    (subst (λ (b : Bool). Gives (g.D.Desk.caller c.args.desk.now) (g.D.Desk.caller c.answer.new.desk) b q (Ok c.in-Ok-answer.answered)) closes (c.in-Ok-answer.ensures q is))
    c.point.ensures.point (subst (λ (b : Bool). GoesOn b c.args.last c.send.result) (sym same) c.send.ensures.goes) c.send.ensures.writes
    (c.mark.ensures.points ∙ ap (λ (ns : List ℕ). ns ++ c.point.result ∷ []) c.make_room.ensures.points)
    (c.mark.ensures.signs ∙ ap (λ (gs : List Sign). gs ++ c.in-Ok-answer.answered.sign ∷ []) c.make_room.ensures.signs)
