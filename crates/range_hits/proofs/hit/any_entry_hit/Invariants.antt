use Rattle.std.proofs.Common.{◌≡◌, length}
use Rattle.std.specs.Prelude.{Some}
use Rattle.std.specs.List.{list_any, AllZip}
use Rattle.evaluate.specs.Hits.{version_entry_hit}
use Rattle.range_hits.specs.Forms.{IsFormIn, IsReadOf, ranges_of}
use Rattle.range_hits.proofs.hit.any_entry_hit.Given as goal

abbrev pub invariant-loop-rest : goal.invariant-loop-rest
invariant-loop-rest l =
    AllZip IsFormIn (ranges_of l.entries) l.forms → IsReadOf l.keys l.version
    → AllZip IsFormIn (ranges_of l.rest) l.own × (list_any (version_entry_hit l.asked (Some l.version)) l.rest ≡ list_any (version_entry_hit l.asked (Some l.version)) l.entries)

abbrev pub decreases-loop-rest : goal.decreases-loop-rest
decreases-loop-rest l = length l.rest
