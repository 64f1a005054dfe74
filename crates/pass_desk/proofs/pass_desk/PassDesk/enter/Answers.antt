use Rattle.std.proofs.Common.{ℕ, subst}
use Rattle.std.specs.Prelude.{Result}
use Rattle.turn_lock.specs.Turn.{IsTurn}
use Rattle.book_model.specs.declared.answers.CallersSpent.{CallersSpent}
use Rattle.book_model.specs.Steps.{Enrols}
use Rattle.pass_desk.specs.Turns.{AreSound}
use Rattle.pass_desk.proofs.Entering.{meaning, noted_in, entered}
use Rattle.pass_desk.proofs.pass_desk.PassDesk.enter.Goals as goal

pub returns-in-Ok-clause-ok : goal.returns-in-Ok-clause-ok
returns-in-Ok-clause-ok g c =
    entered c.in-Ok.me c.args.pass c.turn_mut.new.pass
    (subst (λ (a : Result ℕ CallersSpent). IsTurn meaning noted_in (λ s t. Enrols s a t × AreSound s t) 0 c.args.pass c.turn_mut.new.pass) c.in-Ok.is c.turn_mut.ensures)
