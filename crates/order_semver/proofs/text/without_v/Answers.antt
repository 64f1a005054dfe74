use Rattle.order_semver.proofs.Places.{v_boundary}
use Rattle.order_semver.proofs.text.without_v.Goals as goal

pub range_from-requires : goal.range_from-requires
range_from-requires c = λ h. v_boundary c.args.text.now c.utf8.text (rw c.as_bytes-bytes.ensures.value at c.if-bytes-eq118.true)
