use Rattle.drill_input.proofs.Pushing.{three}
use Rattle.drill_input.proofs.advisory.push_events.Goals as goal

pub returns : goal.returns
returns c = three c.push_limit.result _ _ _ _ _ _ _ c.in_ok-push_event.ensures c.in_ok-push_event-2.ensures c.push_limit.ensures
