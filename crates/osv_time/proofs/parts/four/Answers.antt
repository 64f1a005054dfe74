use Rattle.osv_time.proofs.Places.{four_at}
use Rattle.osv_time.proofs.parts.four.Goals as goal

pub returns : goal.returns
returns c = rw (c.two.ensures.value, c.two-2.ensures.value) (four_at c.args.text.now c.args.at c.requires)
