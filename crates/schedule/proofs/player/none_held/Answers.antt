use Rattle.std.proofs.Common.{List, [], ◌∷◌, ◌++◌, ap, ◌∙◌}
use Rattle.std.specs.Prelude.{Option, None}
use Rattle.snapshot.specs.declared.job.Job.{Job}
use Rattle.schedule.proofs.Holding.{none-push}
use Rattle.schedule.proofs.player.none_held.Goals as goal

pub loop-caller-preserved : goal.loop-caller-preserved
loop-caller-preserved c = c.in_ok-push.ensures.items ∙ ap (λ (xs : List (Option Job)). xs ++ None ∷ []) c.loop-caller.invariant ∙ none-push Job c.loop-caller.caller
