use Rattle.std.proofs.Common.{◌≡◌, List, ◌++◌, Bool, length, map, drop}
use Rattle.std.specs.Arc.{arc_value}
use Rattle.history.specs.declared.past.Past.{Past}
use Rattle.history.specs.Lookups.{has_import}
use Rattle.history.specs.Pieces.{GitRange, ranges_of, ranges_of_entries}
use Rattle.impact_job.specs.Walks.{AreGraphsOf, IsBegun, AreOld}
use Rattle.impact_job.proofs.todo.put_record.Given as goal

abbrev pub invariant-loop-affected : goal.invariant-loop-affected
invariant-loop-affected l =
    (b p : List Past) (anew : Bool) (later : List GitRange) → AreGraphsOf l.graphs b p → has_import (drop (length b) p) (arc_value l.advisory).id ≡ anew
    → IsBegun b p l.fn.todo.items (ranges_of (arc_value l.advisory) ++ later) → AreOld anew b (ranges_of (arc_value l.advisory)) (map (λ a. arc_value a) l.sets)
    → IsBegun b p l.todo.items (ranges_of_entries (arc_value l.advisory) l.entry (drop l.affected-index (arc_value l.advisory).affected) ++ later)
    × AreOld anew b (ranges_of_entries (arc_value l.advisory) l.entry (drop l.affected-index (arc_value l.advisory).affected)) (map (λ a. arc_value a) l.own)
