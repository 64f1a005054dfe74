use Rattle.std.proofs.Common.{◌≡◌, List, take, drop}
use Rattle.std.specs.Prelude.{flat_map}
use Rattle.std.specs.List.{AllZip}
use Rattle.osv_record.specs.Advisories.{Advisory}
use Rattle.history.specs.declared.past.Past.{Past}
use Rattle.history.specs.Pieces.{ranges_of}
use Rattle.impact_job.specs.Tables.{AreSetsOf, IsTodoOf, IsMadeFor, HasSet, git_counts}
use Rattle.impact_job.proofs.building.by_advisory.Given as goal

abbrev pub invariant-loop-ranges : goal.invariant-loop-ranges
invariant-loop-ranges l =
    AllZip HasSet l.rest l.rest_made
    × ((b p : List Past) (rs : List Advisory) → l.counts ≡ git_counts rs → AllZip (IsTodoOf b p) (flat_map ranges_of rs) l.todo → AllZip (IsMadeFor p) (flat_map ranges_of rs) l.made
    → AllZip (AreSetsOf p) (take l.ranges-index rs) l.grouped.items
    × (AllZip (IsTodoOf b p) (flat_map ranges_of (drop l.ranges-index rs)) l.rest
    × AllZip (IsMadeFor p) (flat_map ranges_of (drop l.ranges-index rs)) l.rest_made))
