use Rattle.std.proofs.Common.{◌-◌, length, drop, ◌∙◌, arith}
use Rattle.std.proofs.lemmas.List.{length-drop, take_all}
use Rattle.snapshot.proofs.Listed.{parted, from-point}
use Rattle.snapshot.proofs.packages.from_index.Goals as goal

pub returns : goal.returns
returns c up =
    let indexes = c.args.indexes.now in
    let n = c.count_below.result in
    let point = c.count_below.ensures.point (parted c.args.start indexes up) in
    take_all (length indexes - n) (drop n indexes) (omega (arith, length-drop n indexes))
    ∙ from-point c.args.start indexes n (λ i d lt. point.0 i d (omega arith) lt) (λ i d low lt. point.1 i d low lt)
