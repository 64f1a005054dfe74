use Rattle.std.proofs.Common.{ap, ◌∙◌}
use Rattle.std.specs.Prelude.{is_some}
use Rattle.std.specs.Arc.{arc_value}
use Rattle.impact_job.proofs.Lookups.{looked_up, some-map}
use Rattle.impact_job.proofs.by_repo.Graphs.has_grown.Goals as goal

pub returns : goal.returns
returns c = λ b p k.
    c.is_some.ensures ∙ some-map (λ a. a.now) c.get.result ∙ ap is_some c.get.ensures.value
    ∙ some-map (λ a. arc_value a.now) _
    ∙ ap is_some (looked_up c.args.self.now.grown.entries c.args.key.now)
    ∙ k.grown c.args.key.now
