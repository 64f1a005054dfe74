use Rattle.std.proofs.Common.{◌≡◌, List, ◌++◌, Bool, length, map, drop}
use Rattle.std.specs.Arc.{arc_value}
use Rattle.history.specs.declared.past.Past.{Past}
use Rattle.history.specs.Lookups.{has_import}
use Rattle.history.specs.Pieces.{GitRange, ranges_from}
use Rattle.impact_job.specs.Walks.{AreGraphsOf, IsBegun, AreOld}
use Rattle.impact_job.proofs.todo.put_ranges.Given as goal

abbrev pub invariant-loop-range : goal.invariant-loop-range
invariant-loop-range l =
    (b p : List Past) (anew : Bool) (more later : List GitRange) → AreGraphsOf l.graphs b p → has_import (drop (length b) p) (arc_value l.advisory).id ≡ anew
    → IsBegun b p l.fn.todo.items (ranges_from (arc_value l.advisory) l.entry 0 l.ranges ++ later)
    → AreOld anew b (ranges_from (arc_value l.advisory) l.entry 0 l.ranges ++ more) (map (λ a. arc_value a) l.sets)
    → IsBegun b p l.todo.items (ranges_from (arc_value l.advisory) l.entry l.index (drop l.range-index l.ranges) ++ later)
    × AreOld anew b (ranges_from (arc_value l.advisory) l.entry l.index (drop l.range-index l.ranges) ++ more) (map (λ a. arc_value a) l.own)
