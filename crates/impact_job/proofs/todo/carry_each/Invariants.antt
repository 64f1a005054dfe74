use Rattle.std.proofs.Common.{List, ◌++◌, map, drop}
use Rattle.std.specs.Arc.{arc_value}
use Rattle.std.specs.List.{AllZip}
use Rattle.history.specs.declared.past.Past.{Past}
use Rattle.history.specs.Pieces.{GitRange}
use Rattle.impact_job.specs.Walks.{IsBegun, Stays}
use Rattle.impact_job.proofs.Carrying.{Carrying}
use Rattle.impact_job.proofs.todo.carry_each.Given as goal

abbrev pub invariant-loop-set : goal.invariant-loop-set
invariant-loop-set l =
    (b p : List Past) (xs later : List GitRange) → IsBegun b p l.fn.todo.items (xs ++ later) → AllZip (Stays b p) xs (map (λ a. arc_value a) l.sets)
    → Carrying b p l.todo.items (map (λ a. arc_value a) (drop l.set-index l.sets)) later
