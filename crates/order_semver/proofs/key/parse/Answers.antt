use Rattle.std.proofs.Common.{◌≡◌}
use Rattle.osv_prim.specs.declared.read_version.ReadVersion.TheVariants as why
use Rattle.order_semver.proofs.Refusals.{refused}
use Rattle.order_semver.proofs.key.parse.Goals as goal

pub returns-in-Err-clause-refused : goal.returns-in-Err-clause-refused
returns-in-Err-clause-refused c = λ h. let is : c.fault.result ≡ why.NotAVersion = cc in refused c.in-Err.error c.fault.result _ c.fault.ensures c.in-Err.ensures.err is
