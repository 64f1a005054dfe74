use Rattle.range_eval.proofs.Stands.{held}
use Rattle.range_eval.proofs.compiled.Compiled.contains.Goals as goal

pub returns-then-is_before : goal.returns-then-is_before
returns-then-is_before g c = λ events stands.
    held g.T.Ord.cmp c.args.version.now c.args.self.now events c.as_slice.result.now c.is_before.result c.flag.result stands c.is_before.ensures c.if-is_before.true c.as_slice.ensures.value c.flag.ensures
