use Rattle.std.proofs.Common.{List, Global, ap, ◌∙◌}
use Rattle.std.specs.declared.sync.Arc.{Arc}
use Rattle.osv_prim.specs.declared.oid.CommitRow.{CommitRow}
use Rattle.osv_prim.specs.Graphs.{number_of}
use Rattle.commit_graph.specs.Segments.{Part, seen, rows_of}
use Rattle.commit_graph.proofs.Rows.{its_id}
use Rattle.commit_graph.proofs.Parts.{number_has, number_within}
use Rattle.commit_graph.proofs.graph.Graph.number_of.Goals as goal

pub returns-clause-found : goal.returns-clause-found
returns-clause-found c =
    number_has c.args.self.now c.args.oid.now c.number_in.result
    (c.number_in.ensures
    ∙ ap (λ (g : List CommitRow). number_of g c.args.oid.now) (ap (λ (xs : List (Arc Part Global)). rows_of (seen xs) c.self.inside.fresh) c.as_slice.ensures.value ∙ c.self.view_is))

pub returns-clause-within : goal.returns-clause-within
returns-clause-within c =
    number_within c.args.self.now c.args.oid.now c.number_in.result
    (c.number_in.ensures
    ∙ ap (λ (g : List CommitRow). number_of g c.args.oid.now) (ap (λ (xs : List (Arc Part Global)). rows_of (seen xs) c.self.inside.fresh) c.as_slice.ensures.value ∙ c.self.view_is))

pub returns-clause-row : goal.returns-clause-row
returns-clause-row c =
    its_id c.args.self.now c.args.oid.now c.number_in.result
    (c.number_in.ensures
    ∙ ap (λ (g : List CommitRow). number_of g c.args.oid.now) (ap (λ (xs : List (Arc Part Global)). rows_of (seen xs) c.self.inside.fresh) c.as_slice.ensures.value ∙ c.self.view_is))
