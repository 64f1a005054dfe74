use Rattle.osv_time.proofs.Places.{two_at}
use Rattle.osv_time.proofs.parts.two.Goals as goal

pub returns-clause-value : goal.returns-clause-value
returns-clause-value c = rw (c.digit_value.ensures.value, c.digit_value-2.ensures.value) (two_at c.args.text.now c.args.at c.requires)
