use Rattle.std.proofs.Common.{inr, refl}
use Rattle.osv_service.specs.Run.{usage}
use Rattle.osv_service.proofs.Ending.{prints_by}
use Rattle.osv_service.proofs.program.decline.Goals as goal

pub returns : goal.returns
returns g c = prints_by _ 2 c.as_bytes.result.now usage _ _ _ _ (inr refl) c.as_bytes.ensures.value c.write_out.ensures.whole c.write_out.ensures.status c.write_out.ensures.front c.write_out.ensures.fault
