use Rattle.range_eval.proofs.Stands.{made_in_place}
use Rattle.range_eval.proofs.compiled.Compiled.build.Goals as goal

pub returns : goal.returns
returns g c =
    made_in_place g.T.Ord.cmp g.met.T.Ord.total c.of_sorted.result _ c.args.events.items c.as_mut_slice.result.now c.sort.new.events _ c.as_mut_slice.ensures.value c.as_mut_slice.ensures.len
    c.sort.ensures.permutation c.sort.ensures.sorted c.of_sorted.ensures.turns c.of_sorted.ensures.limit
