use Rattle.std.proofs.Common.{List, ℕ, length, arith, ap}
use Rattle.osv_prim.proofs.Cuts.{count}
use Rattle.osv_prim.proofs.lists.Lists.at.Goals as goal

pub list_at-requires-clause-there : goal.list_at-requires-clause-there
list_at-requires-clause-there g c =
    omega (
      arith,
      c.requires,
      ap (λ (lists : List (List g.row.T.Denot)). length lists) c.self.view_is,
      count 0 c.self.inside.ends.items c.self.inside.items.items,
      ap (λ (ends : List ℕ). length ends) c.as_slice-2.ensures.value,
    )
