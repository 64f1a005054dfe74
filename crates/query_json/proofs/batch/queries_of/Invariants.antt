use Rattle.std.proofs.Common.{◌≡◌, ◌+◌, length}
use Rattle.osv_prim.specs.Results.{onto}
use Rattle.json_view.specs.Views.{element_values}
use Rattle.query_json.specs.Batches.{queries_from}
use Rattle.query_json.proofs.batch.queries_of.Given as goal

abbrev pub invariant-loop-node : goal.invariant-loop-node
invariant-loop-node l =
    (onto l.queries (queries_from l.index (element_values l.elements)) ≡ queries_from 0 (element_values l.initial.elements))
    × (l.index + length (element_values l.elements) ≡ length (element_values l.initial.elements))

abbrev pub decreases-loop-node : goal.decreases-loop-node
decreases-loop-node l = length (element_values l.elements)
