use Rattle.std.proofs.Common.{sym, ◌∙◌, arith}
use Rattle.order_pypi.proofs.Trimming.{space_ends, other_ends, all_space}
use Rattle.order_pypi.proofs.scan.trim_end.Goals as goal

pub returns-then-not-is_space : goal.returns-then-not-is_space
returns-then-not-is_space c =
    other_ends c.args.text.now c.loop-end.end c.loop-end-test.true c.loop-end.invariant.within (sym c.is_space.ensures ∙ c.if-not-is_space.true) ∙ c.loop-end.invariant.space_behind

pub loop-end-preserved : goal.loop-end-preserved
loop-end-preserved c = record {
  within = omega (arith, c.loop-end.invariant.within);
  space_behind = space_ends c.args.text.now c.loop-end.end c.loop-end-test.true c.loop-end.invariant.within (sym c.is_space.ensures ∙ c.if-not-is_space.false) ∙ c.loop-end.invariant.space_behind;
}

pub returns : goal.returns
returns c = all_space c.args.text.now c.loop-end.end (omega (arith, c.loop-end-test.false)) ∙ c.loop-end.invariant.space_behind
