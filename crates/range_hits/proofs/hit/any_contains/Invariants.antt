use Rattle.std.proofs.Common.{◌≡◌, ℕ, List, length}
use Rattle.std.specs.List.{list_any, AllZip}
use Rattle.osv_record.specs.Advisories.{Extent}
use Rattle.evaluate.specs.Hits.{range_contains}
use Rattle.range_hits.specs.Forms.{IsFormOf, IsReadOf}
use Rattle.range_hits.proofs.hit.any_contains.Given as goal

-- the ranges whose forms are left say what all of them do
abbrev pub invariant-loop-rest : goal.invariant-loop-rest
invariant-loop-rest l =
    (ecosystem version : List ℕ) (extents : List Extent) → AllZip (IsFormOf ecosystem) extents l.forms → IsReadOf l.keys version
    → (left : List Extent) × AllZip (IsFormOf ecosystem) left l.rest × (list_any (range_contains ecosystem version) left ≡ list_any (range_contains ecosystem version) extents)

abbrev pub decreases-loop-rest : goal.decreases-loop-rest
decreases-loop-rest l = length l.rest
