use Rattle.std.proofs.Common.{sym, ◌∙◌, arith}
use Rattle.order_debian.proofs.Dashes.{found, not_there, none_left}
use Rattle.order_debian.proofs.places.last_dash.Goals as goal

pub returns-then-text-end-eq45-clause-place : goal.returns-then-text-end-eq45-clause-place
returns-then-text-end-eq45-clause-place c =
    sym (found 45 c.args.text.now c.loop-end.end c.loop-end-test.true c.loop-end.invariant.within c.if-text-end-eq45.true) ∙ c.loop-end.invariant.none_behind

pub loop-end-preserved : goal.loop-end-preserved
loop-end-preserved c = record {
  within = omega (arith, c.loop-end.invariant.within);
  none_behind = sym (not_there 45 c.args.text.now c.loop-end.end c.loop-end-test.true c.loop-end.invariant.within c.if-text-end-eq45.false) ∙ c.loop-end.invariant.none_behind;
}

pub returns-clause-place : goal.returns-clause-place
returns-clause-place c = sym (none_left 45 c.args.text.now c.loop-end.end (omega (arith, c.loop-end-test.false))) ∙ c.loop-end.invariant.none_behind
