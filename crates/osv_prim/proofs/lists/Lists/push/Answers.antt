use Rattle.osv_prim.proofs.Cuts.{pushed, still_cut}
use Rattle.osv_prim.proofs.lists.Lists.push.Goals as goal

pub invariant_of-self : goal.invariant_of-self
invariant_of-self g c =
    still_cut c.self.inside.ends.items c.push_list.new.ends.items c.self.inside.items.items c.push_list.new.items.items c.args.list.now c.push_list.result
    c.self.invariant c.push_list.ensures.items c.push_list.ensures.ends c.push_list.ensures.items_stay c.push_list.ensures.ends_stay

pub returns-clause-ok : goal.returns-clause-ok
returns-clause-ok g c =
    pushed c.self.inside.ends.items c.push_list.new.ends.items c.self.inside.items.items c.push_list.new.items.items c.args.list.now c.push_list.result
    c.args.self.now c.self.invariant c.self.view_is c.push_list.ensures.items c.push_list.ensures.ends
