use Rattle.std.proofs.Common.{sym, ◌∙◌}
use Rattle.order_debian.proofs.Weighing.{decides, goes_on, are_used, shorter}
use Rattle.order_debian.proofs.part.part_cmp.Goals as goal

pub returns-in_default : goal.returns-in_default
returns-in_default c =
    decides c.loop-a_rest.a_rest.now c.loop-a_rest.b_rest.now _ _ _ _ c.turn_cmp.result c.first_turn-x.ensures.front c.first_turn-x.ensures.digits c.first_turn-y.ensures.front c.first_turn-y.ensures.digits c.turn_cmp.ensures c.in_default.not-Equal
    ∙ c.loop-a_rest.invariant

pub loop-a_rest-preserved : goal.loop-a_rest-preserved
loop-a_rest-preserved c =
    rw (c.first_turn-x.ensures.rest, c.first_turn-y.ensures.rest)
    (goes_on c.loop-a_rest.a_rest.now c.loop-a_rest.b_rest.now _ _ _ _ c.turn_cmp.result c.first_turn-x.ensures.front c.first_turn-x.ensures.digits c.first_turn-y.ensures.front c.first_turn-y.ensures.digits c.turn_cmp.ensures c.in-Equal.is
    ∙ c.loop-a_rest.invariant)

pub loop-a_rest-smaller : goal.loop-a_rest-smaller
loop-a_rest-smaller c =
    rw (c.first_turn-x.ensures.rest, c.first_turn-y.ensures.rest) (shorter c.loop-a_rest.a_rest.now c.loop-a_rest.b_rest.now c.loop-a_rest-test.ensures)

pub returns : goal.returns
returns c = sym (are_used c.loop-a_rest.a_rest.now c.loop-a_rest.b_rest.now c.loop-a_rest-test.ensures) ∙ c.loop-a_rest.invariant
