use Rattle.std.proofs.Common.{◌≡◌, ◌+◌, ◌++◌, length}
use Rattle.record_check.specs.Notices.{ranges_notices}
use Rattle.record_check.proofs.noting.note_ranges.Given as goal

abbrev pub invariant-loop-rest : goal.invariant-loop-rest
invariant-loop-rest l =
    (l.found.items ++ ranges_notices l.number l.entry.«package» l.at l.rest ≡ l.initial.found.items ++ ranges_notices l.number l.entry.«package» 0 l.entry.ranges)
    × (l.at + length l.rest ≡ length l.entry.ranges)

abbrev pub decreases-loop-rest : goal.decreases-loop-rest
decreases-loop-rest l = length l.rest
