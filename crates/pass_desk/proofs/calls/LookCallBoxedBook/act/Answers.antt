use Rattle.std.proofs.Common.{◌≡◌, ◌∙◌, refl, subst}
use Rattle.std.specs.Arc.{arc_value}
use Rattle.book_model.specs.State.{State}
use Rattle.book_model.specs.Sound.{IsSound}
use Rattle.book_model.specs.Steps.{Looks}
use Rattle.snapshot.specs.Snapshots.{StandsFor}
use Rattle.pass_desk.proofs.calls.LookCallBoxedBook.act.Goals as goal

pub returns-clause-does : goal.returns-clause-does
returns-clause-does c =
    let same : c.deref-2.result.now ≡ c.args.state.now = c.deref-2.ensures ∙ c.state.view_is in
    let sound : IsSound c.args.state.now = subst (λ (s : State). IsSound s) (c.deref.ensures ∙ c.state.view_is) c.point-found.ensures.sound in
    let looks = subst (λ (s : State). Looks (λ x p. StandsFor (arc_value x) p) c.args.self.numbers.now s c.look-newest.result c.look-newest.new.found.items s) same c.look-newest.ensures in
    (looks, record { sound = (sound, sound); callers = refl })
