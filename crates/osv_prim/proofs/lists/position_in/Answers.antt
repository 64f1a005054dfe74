use Rattle.std.proofs.Common.{length, arith}
use Rattle.osv_prim.proofs.Cuts.{first_ends}
use Rattle.osv_prim.proofs.lists.position_in.Goals as goal

pub slice_bounds-eq-end : goal.slice_bounds-eq-end
slice_bounds-eq-end c =
    omega (arith, first_ends c.loop-rest.start c.loop-rest.rest.now (length c.args.bytes.now) c.loop-rest.invariant.cut c.in-len1-up.len_at_least)
