use Rattle.std.proofs.Common.{◌≡◌, length, ◌∙◌}
use Rattle.std.specs.Vec.Iter.{into_iter_items}
use Rattle.multimap.proofs.Sorting.{all-taken, in-order, zipped-are}
use Rattle.multimap.proofs.sorted.split.Goals as goal

pub invariant_of-result : goal.invariant_of-result
invariant_of-result g c =
    let loop = c.loop-key in
    let none : length (into_iter_items loop.key-iterator) ≡ 0 = loop.invariant.left ∙ c.in-None.ensures.steps.0 in
    in-order g.K.Ord.cmp g.met.K.Ord.total c.args.entries.items c.requires loop.keys.items loop.values.items (all-taken (λ e. e.0) (into_iter_items loop.key-iterator) none _ _ loop.invariant.keys)
    (all-taken (λ e. e.1) (into_iter_items loop.key-iterator) none _ _ loop.invariant.values)

pub returns : goal.returns
returns g c =
    let loop = c.loop-key in
    let none : length (into_iter_items loop.key-iterator) ≡ 0 = loop.invariant.left ∙ c.in-None.ensures.steps.0 in
    zipped-are c.args.entries.items loop.keys.items loop.values.items (all-taken (λ e. e.0) (into_iter_items loop.key-iterator) none _ _ loop.invariant.keys)
    (all-taken (λ e. e.1) (into_iter_items loop.key-iterator) none _ _ loop.invariant.values)
