use Rattle.std.proofs.Common.{List, ap, ◌∙◌}
use Rattle.std.specs.Prelude.{option_map}
use Rattle.std.specs.Arc.{arc_value}
use Rattle.evaluate.specs.Hits.{Repo, graph_of}
use Rattle.impact_job.proofs.Lookups.{looked_up, found-graph, missing-graph}
use Rattle.impact_job.proofs.by_repo.Graphs.graph.Goals as goal

pub returns-in-Some : goal.returns-in-Some
returns-in-Some c = λ b p k.
    found-graph p c.args.key.now (arc_value c.in-Some.graph.now.now)
    (ap (option_map (λ a. arc_value a.now)) c.in-Some.ensures.value ∙ looked_up c.args.self.now.all.entries c.args.key.now ∙ ap (λ (gs : List Repo). graph_of gs c.args.key.now) k.all)

pub returns-in-None : goal.returns-in-None
returns-in-None c = λ b p k.
    k.none
    ∙ missing-graph p c.args.key.now
    (ap (option_map (λ a. arc_value a.now)) c.in-None.ensures.value ∙ looked_up c.args.self.now.all.entries c.args.key.now ∙ ap (λ (gs : List Repo). graph_of gs c.args.key.now) k.all)
