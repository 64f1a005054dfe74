use Rattle.std.proofs.Common.{◌≡◌, ◌∙◌, subst}
use Rattle.book_model.specs.State.{State}
use Rattle.book_model.specs.Steps.{Finishes}
use Rattle.book_model.proofs.Growing.{finishes-keeps}
use Rattle.snapshot.specs.Jobs.{outcome}
use Rattle.pass_desk.proofs.calls.FinishCallBoxedBook.act.Goals as goal

pub returns-clause-grows : goal.returns-clause-grows
returns-clause-grows c =
    let same : c.deref_mut.result.now ≡ c.args.state.now = c.deref_mut.ensures.value ∙ c.state.view_is in
    let done = outcome c.args.self.finished in
    let step = subst (λ (s : State). Finishes c.args.by done s c.finish-answer.result.0 c.finish-answer.new.self) same c.finish-answer.ensures in
    (finishes-keeps c.args.by done c.args.state.now c.finish-answer.new.self c.finish-answer.result.0 step).grown
