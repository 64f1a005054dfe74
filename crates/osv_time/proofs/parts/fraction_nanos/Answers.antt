use Rattle.osv_time.proofs.Tenths.{nanos_are}
use Rattle.osv_time.proofs.parts.fraction_nanos.Goals as goal

pub returns : goal.returns
returns c = nanos_are c.loop-rest.nanos c.loop-rest.unit c.loop-rest.rest.now c.args.digits.now c.loop-rest.invariant.0 c.in_default.len_below c.requires
