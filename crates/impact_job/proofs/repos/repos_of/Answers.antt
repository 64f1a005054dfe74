use Rattle.std.proofs.Common.{map, ap, ◌∙◌}
use Rattle.std.specs.Arc.{arc_value}
use Rattle.std.proofs.lemmas.Result.{IfOk-weaker}
use Rattle.impact_job.proofs.repos.repos_of.Goals as goal

pub returns : goal.returns
returns c =
    IfOk-weaker c.copies_of.result _ _ (λ v e. e ∙ ap (map (λ x. (x.0.now, arc_value x.1.now))) (c.as_slice.ensures.value ∙ c.in_ok-entries.ensures)) c.copies_of.ensures
