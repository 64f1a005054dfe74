use Rattle.std.proofs.Common.{is_some, ap}
use Rattle.json_view.specs.Trees.{shown_elements}
use Rattle.json_view.proofs.Places.{empty_array}
use Rattle.json_view.proofs.node.Elements.none.Goals as goal

pub invariant_of-result : goal.invariant_of-result
invariant_of-result c = record { begins = ap is_some empty_array }

pub returns : goal.returns
returns c = ap shown_elements empty_array
