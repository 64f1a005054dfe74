use Rattle.std.proofs.Common.{List, length, sum_by, ap, arith}
use Rattle.osv_prim.proofs.Cuts.{total-pieces}
use Rattle.osv_prim.proofs.lists.Lists.total.Goals as goal

pub returns : goal.returns
returns g c =
    let all = total-pieces 0 c.self.inside.ends.items c.self.inside.items.items c.self.invariant in
    omega (arith, all, ap (λ (lists : List (List g.row.T.Denot)). sum_by length lists) c.self.view_is)
