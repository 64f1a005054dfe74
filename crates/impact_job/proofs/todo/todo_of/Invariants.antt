use Rattle.std.proofs.Common.{◌≡◌, List, length, map, drop}
use Rattle.std.specs.Arc.{arc_value}
use Rattle.history.specs.declared.past.Past.{Past}
use Rattle.history.specs.Prefixes.{records}
use Rattle.impact_job.specs.Tables.{StandsFor}
use Rattle.impact_job.specs.Walks.{AreGraphsOf}
use Rattle.impact_job.proofs.Listing.{Listing}
use Rattle.impact_job.proofs.todo.todo_of.Given as goal

abbrev pub invariant-loop-record : goal.invariant-loop-record
invariant-loop-record l =
    (b p : List Past) → AreGraphsOf l.graphs b p → StandsFor l.base b → map (λ a. arc_value a.now) l.changed ≡ records (drop (length b) p)
    → Listing b p l.todo.items (map (λ a. arc_value a) l.rest) l.sets (map (λ a. arc_value a.now) (drop l.record-index l.changed))
