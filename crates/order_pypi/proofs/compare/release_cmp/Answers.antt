use Rattle.std.proofs.Common.{sym, ap, ◌∙◌}
use Rattle.order_pypi.specs.Grammar.{tail}
use Rattle.order_pypi.proofs.Releases.{decides, goes_on, both_used, rest_bytes, shorter}
use Rattle.order_pypi.proofs.compare.release_cmp.Goals as goal

pub returns-in_default : goal.returns-in_default
returns-in_default c =
    decides c.loop-a_rest.a_rest.now c.loop-a_rest.b_rest.now _ _ c.digits_cmp.result c.loop-a_rest.invariant.left c.loop-a_rest.invariant.right c.split_digits-x.ensures.run c.split_digits-y.ensures.run c.digits_cmp.ensures c.in_default.not-Equal
    ∙ c.loop-a_rest.invariant.same

pub loop-a_rest-preserved : goal.loop-a_rest-preserved
loop-a_rest-preserved c =
    let left = c.tail-a_rest.ensures ∙ ap tail c.split_digits-x.ensures.rest in
    let right = c.tail-b_rest.ensures ∙ ap tail c.split_digits-y.ensures.rest in
    record {
      left = rw left (rest_bytes c.loop-a_rest.a_rest.now c.loop-a_rest.invariant.left);
      right = rw right (rest_bytes c.loop-a_rest.b_rest.now c.loop-a_rest.invariant.right);
      same = rw (left, right)
          (goes_on c.loop-a_rest.a_rest.now c.loop-a_rest.b_rest.now _ _ c.digits_cmp.result c.loop-a_rest.invariant.left c.loop-a_rest.invariant.right c.split_digits-x.ensures.run c.split_digits-y.ensures.run c.digits_cmp.ensures c.in-Equal.is
          ∙ c.loop-a_rest.invariant.same);
    }

pub loop-a_rest-smaller : goal.loop-a_rest-smaller
loop-a_rest-smaller c =
    let left = c.tail-a_rest.ensures ∙ ap tail c.split_digits-x.ensures.rest in
    let right = c.tail-b_rest.ensures ∙ ap tail c.split_digits-y.ensures.rest in
    rw (left, right) (shorter c.loop-a_rest.a_rest.now c.loop-a_rest.b_rest.now c.loop-a_rest-test.ensures)

pub returns : goal.returns
returns c = sym (both_used c.loop-a_rest.a_rest.now c.loop-a_rest.b_rest.now c.loop-a_rest-test.ensures) ∙ c.loop-a_rest.invariant.same
