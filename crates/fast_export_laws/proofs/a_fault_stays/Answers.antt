use Rattle.fast_export_laws.proofs.Stays.{stays}
use Rattle.fast_export_laws.proofs.a_fault_stays.Goals as goal

pub returns : goal.returns
returns c = stays
