use Rattle.order_semver.proofs.Places.{mark_boundary}
use Rattle.order_semver.proofs.text.completed.Goals as goal

pub range-numbers-requires-clause-end_boundary : goal.range-numbers-requires-clause-end_boundary
range-numbers-requires-clause-end_boundary c = mark_boundary c.args.text.now c.mark_place-at.result (rw c.as_bytes.ensures.value at c.mark_place-at.ensures)

pub range_from-rest-requires : goal.range_from-rest-requires
range_from-rest-requires c = λ h. mark_boundary c.args.text.now c.mark_place-at.result (rw c.as_bytes.ensures.value at c.mark_place-at.ensures)
