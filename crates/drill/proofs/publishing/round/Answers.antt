use Rattle.std.proofs.Common.{List, [], ◌∷◌, subst}
use Rattle.schedule.specs.declared.step.Step.{Step}
use Rattle.schedule.specs.Machine.{IsPlayed}
use Rattle.schedule.specs.declared.step.Step.TheVariants.{Pull, Work}
use Rattle.drill.proofs.Having.{has-same}
use Rattle.drill.proofs.Quiet.{played-same}
use Rattle.drill.proofs.publishing.round.Goals as goal

pub returns-clause-has : goal.returns-clause-has
returns-clause-has g c a ks rows h =
    let list : List Step = Pull 0 ∷ Pull 1 ∷ Work 0 ∷ Work 1 ∷ [] in
    has-same c.args.book.now c.play.new.book a ks rows
    (played-same list c.args.book.now c.in_ok-answers.answers.items c.play.new.book (tt, (tt, (tt, (tt, tt))))
    (subst (λ (l : List Step). IsPlayed l c.args.book.now c.in_ok-answers.answers.items c.play.new.book) c.as_slice.ensures c.in_ok-answers.ensures.ok)) h
