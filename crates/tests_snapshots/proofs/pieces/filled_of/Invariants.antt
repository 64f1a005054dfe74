use Rattle.std.proofs.Common.{◌≡◌, List, length, take}
use Rattle.std.specs.Arc.{arc_value}
use Rattle.std.specs.List.{AllZip}
use Rattle.history.specs.declared.past.Past.{Past}
use Rattle.history.specs.Pieces.{git_ranges_in}
use Rattle.impact_job.specs.Tables.{IsPlanOf, IsMadeFor, HasSet}
use Rattle.tests_snapshots.proofs.pieces.filled_of.Given as goal

abbrev pub invariant-loop-place : goal.invariant-loop-place
invariant-loop-place g l =
    (length l.made.items ≡ l.place-index)
    × (AllZip HasSet (take l.place-index (arc_value l.plan).todo.items) l.made.items
    × ((b p : List Past) → IsPlanOf (arc_value l.plan) b p → AllZip (IsMadeFor p) (take l.place-index (git_ranges_in p)) l.made.items))
