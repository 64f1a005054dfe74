use Rattle.multimap.proofs.Runs.{start-first, values-are}
use Rattle.multimap.proofs.search.values_at.Goals as goal

pub slice_bounds-result-count : goal.slice_bounds-result-count
slice_bounds-result-count g c =
    start-first g.K.Ord.cmp c.args.keys.now c.args.values.now c.requires.size c.args.key.now c.count_below-start.result c.count_up_to-end.result c.count_below-start.ensures.point c.count_up_to-end.ensures.point
    c.count_below-start.ensures.within

pub slice_bounds-result-start : goal.slice_bounds-result-start
slice_bounds-result-start g c =
    start-first g.K.Ord.cmp c.args.keys.now c.args.values.now c.requires.size c.args.key.now c.count_below-start.result c.count_up_to-end.result c.count_below-start.ensures.point c.count_up_to-end.ensures.point
    c.count_below-start.ensures.within

pub returns : goal.returns
returns g c =
    let start = c.count_below-start.result in
    let end = c.count_up_to-end.result in
    let le = start-first g.K.Ord.cmp c.args.keys.now c.args.values.now c.requires.size c.args.key.now start end c.count_below-start.ensures.point c.count_up_to-end.ensures.point c.count_below-start.ensures.within in
    values-are g.K.Ord.cmp c.args.keys.now c.args.values.now c.requires.size c.args.key.now start end c.count_below-start.ensures.point c.count_up_to-end.ensures.point le
    c.count_up_to-end.ensures.within
