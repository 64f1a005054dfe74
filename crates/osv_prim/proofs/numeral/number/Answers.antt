use Rattle.std.proofs.Common.{◌∙◌}
use Rattle.osv_prim.proofs.Numerals.{too_large, is_value}
use Rattle.osv_prim.proofs.numeral.number.Goals as goal

pub returns-in_err-number : goal.returns-in_err-number
returns-in_err-number c =
    c.from_residual.ensures ∙ too_large c.loop-rest.number c.loop-rest.rest.now c.args.digits.now c.in-len1-up.len_at_least c.loop-rest.invariant.so_far c.in_err-number.ensures

pub returns : goal.returns
returns c = is_value c.loop-rest.number c.loop-rest.rest.now c.args.digits.now c.loop-rest.invariant.bound c.in_default.len_below c.loop-rest.invariant.so_far
