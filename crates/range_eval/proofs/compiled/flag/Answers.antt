use Rattle.std.proofs.Common.{ltb, arith, ◌≡◌, ◌∙◌, false}
use Rattle.range_eval.proofs.Turns.{flag-none, flag-some}
use Rattle.range_eval.proofs.compiled.flag.Goals as goal

pub returns-then-count-gt0 : goal.returns-then-count-gt0
returns-then-count-gt0 g c = λ h.
    c.introduces.ensures
    ∙ flag-some g.T.Ord.cmp c.args.version.now c.args.turns.now c.count_acting-count.result c.index-turns-count.result (omega arith) c.count_acting-count.ensures.within (c.count_acting-count.ensures.point h)

pub returns-else-count-gt0 : goal.returns-else-count-gt0
returns-else-count-gt0 g c = λ h.
    let none : ltb 0 c.count_acting-count.result ≡ false = grind arith in
    none ∙ flag-none g.T.Ord.cmp c.args.version.now c.args.turns.now c.count_acting-count.result (omega arith) (c.count_acting-count.ensures.point h)
