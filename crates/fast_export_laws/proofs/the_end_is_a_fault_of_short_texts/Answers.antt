use Rattle.fast_export_laws.proofs.OfLines.{ends}
use Rattle.fast_export_laws.proofs.the_end_is_a_fault_of_short_texts.Goals as goal

pub returns : goal.returns
returns c = ends
