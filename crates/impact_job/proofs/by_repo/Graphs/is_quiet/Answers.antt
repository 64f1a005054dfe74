use Rattle.std.proofs.Common.{ap, sym, ◌∙◌}
use Rattle.std.specs.Prelude.{is_some}
use Rattle.std.specs.Arc.{arc_value}
use Rattle.std.proofs.lemmas.List.{length-map, nil_from_length}
use Rattle.evaluate.specs.Hits.{graph_of}
use Rattle.impact_job.specs.Walks.{entries_seen}
use Rattle.impact_job.proofs.Lookups.{none-there}
use Rattle.impact_job.proofs.by_repo.Graphs.is_quiet.Goals as goal

pub returns : goal.returns
returns c = λ b p k.
    let entries = c.args.self.now.grown.entries in (
      λ yes key. sym (k.grown key) ∙ ap (λ es. is_some (graph_of (entries_seen es) key)) (nil_from_length entries (c.is_empty.ensures.0 yes)),
      λ none. c.is_empty.ensures.1 (sym (length-map entries (λ e. (e.0.now, arc_value e.1.now))) ∙ none-there (entries_seen entries) (λ key. k.grown key ∙ none key)),
    )
