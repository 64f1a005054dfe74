use Rattle.std.proofs.Common.{◌≡◌, length}
use Rattle.osv_prim.specs.Results.{each, onto}
use Rattle.json_view.specs.Views.{element_values}
use Rattle.osv_record.specs.Reading.{version_of}
use Rattle.osv_record.proofs.reading.versions_of.Given as goal

abbrev pub invariant-loop-node : goal.invariant-loop-node
invariant-loop-node l = onto l.versions (each version_of (element_values l.elements)) ≡ each version_of (element_values l.initial.elements)

abbrev pub decreases-loop-node : goal.decreases-loop-node
decreases-loop-node l = length (element_values l.elements)
