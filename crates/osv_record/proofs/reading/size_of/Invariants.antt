use Rattle.std.proofs.Common.{length}
use Rattle.json_view.specs.Views.{element_values}
use Rattle.osv_record.proofs.reading.size_of.Given as goal

abbrev pub decreases-loop-node : goal.decreases-loop-node
decreases-loop-node l = length (element_values l.elements)
