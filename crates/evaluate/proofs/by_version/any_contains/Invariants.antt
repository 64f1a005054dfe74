use Rattle.std.proofs.Common.{◌≡◌, length}
use Rattle.std.specs.List.{list_any}
use Rattle.evaluate.specs.Hits.{range_contains}
use Rattle.evaluate.proofs.by_version.any_contains.Given as goal

abbrev pub invariant-loop-rest : goal.invariant-loop-rest
invariant-loop-rest l = list_any (range_contains l.ecosystem l.text) l.rest ≡ list_any (range_contains l.ecosystem l.text) l.ranges

abbrev pub decreases-loop-rest : goal.decreases-loop-rest
decreases-loop-rest l = length l.rest
