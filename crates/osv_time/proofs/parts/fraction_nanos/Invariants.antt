use Rattle.std.proofs.Common.{◌≡◌, ◌+◌, ◌*◌, ◌≤◌, length}
use Rattle.osv_time.proofs.Tenths.{tenths}
use Rattle.osv_time.proofs.parts.fraction_nanos.Given as goal

abbrev pub invariant-loop-rest : goal.invariant-loop-rest
invariant-loop-rest l =
    (l.nanos + tenths l.unit l.rest ≡ tenths 100000000 l.fn.digits)
    × (l.nanos + 20700000000 * length l.rest ≤ 186300000000) × (l.unit ≤ 100000000)

abbrev pub decreases-loop-rest : goal.decreases-loop-rest
decreases-loop-rest l = length l.rest
