use Rattle.std.proofs.Common.{List, map, take, length}
use Rattle.std.specs.Arc.{arc_value}
use Rattle.std.specs.List.{AllZip}
use Rattle.history.specs.declared.past.Past.{Past}
use Rattle.history.specs.Pieces.{GitRange}
use Rattle.piece_work.specs.Sets.{IsSetOf}
use Rattle.impact_job.specs.Tables.{IsTodoOf, IsMadeFor}
use Rattle.impact_job.proofs.building.sets_of.Given as goal

abbrev pub invariant-loop-one : goal.invariant-loop-one
invariant-loop-one l =
    (b p : List Past) (ranges : List GitRange) → AllZip (IsTodoOf b p) ranges l.todo → AllZip (IsMadeFor p) ranges l.made → AllZip (IsSetOf p) (take (length l.yielded) ranges) (map (λ a. arc_value a) l.sets.items)
