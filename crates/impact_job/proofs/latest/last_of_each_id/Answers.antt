use Rattle.std.proofs.Common.{map, ap, ◌∙◌}
use Rattle.std.specs.Arc.{arc_value}
use Rattle.evaluate.proofs.ById.{all_values}
use Rattle.impact_job.proofs.latest.last_of_each_id.Goals as goal

pub returns : goal.returns
returns c = ap (map (λ a. arc_value a.now)) c.in_ok-values_of.ensures ∙ all_values (λ x. arc_value x.now) c.in_ok-found.found.entries _ c.in_ok-found.ensures
