use Rattle.drill_input.proofs.Pushing.{three}
use Rattle.drill_input.proofs.advisory.push_git.Goals as goal

pub returns : goal.returns
returns c = three c.push-2.result _ _ _ _ _ _ _ c.in_ok-push.ensures c.in_ok-push_events.ensures c.push-2.ensures
