use Rattle.std.proofs.Common.{map, ap, ◌∙◌}
use Rattle.std.specs.Arc.{arc_value}
use Rattle.std.proofs.lemmas.Result.{IfOk-weaker}
use Rattle.evaluate.proofs.ById.{all_values}
use Rattle.evaluate.proofs.evaluation.hits.Goals as goal

pub returns-clause-hits : goal.returns-clause-hits
returns-clause-hits g c =
    IfOk-weaker c.shared.result _ _
    (λ v h. h ∙ ap (map (λ a. arc_value a.now)) (c.as_slice.ensures.value ∙ c.in_ok-values_of.ensures) ∙ all_values (λ x. arc_value x.now) c.in_ok-found.found.entries _ c.in_ok-found.ensures.hits)
    c.shared.ensures
