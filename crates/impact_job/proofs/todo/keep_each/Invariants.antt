use Rattle.std.proofs.Common.{◌≡◌, List, ◌++◌, length, map, drop, false}
use Rattle.std.specs.Prelude.{flat_map}
use Rattle.std.specs.Arc.{arc_value}
use Rattle.std.specs.List.{AllZip, AllByRecursion}
use Rattle.osv_record.specs.Advisories.{Advisory}
use Rattle.history.specs.declared.past.Past.{Past}
use Rattle.history.specs.Lookups.{has_import}
use Rattle.history.specs.Pieces.{GitRange, ranges_of}
use Rattle.impact_job.specs.Tables.{AreSetsOf}
use Rattle.impact_job.specs.Walks.{AreGraphsOf, IsBegun}
use Rattle.impact_job.proofs.todo.keep_each.Given as goal

abbrev pub invariant-loop-advisory : goal.invariant-loop-advisory
invariant-loop-advisory l =
    (b p : List Past) (more : List Advisory) (later : List GitRange) → AreGraphsOf l.graphs b p
    → AllByRecursion (λ r. has_import (drop (length b) p) r.id ≡ false) (map (λ a. arc_value a) l.advisories)
    → IsBegun b p l.fn.todo.items (flat_map ranges_of (map (λ a. arc_value a) l.advisories) ++ later)
    → AllZip (AreSetsOf b) (map (λ a. arc_value a) l.advisories ++ more) l.sets
    → AllByRecursion (λ r. has_import (drop (length b) p) r.id ≡ false) (map (λ a. arc_value a) (drop l.advisory-index l.advisories))
    × IsBegun b p l.todo.items (flat_map ranges_of (map (λ a. arc_value a) (drop l.advisory-index l.advisories)) ++ later)
    × AllZip (AreSetsOf b) (map (λ a. arc_value a) (drop l.advisory-index l.advisories) ++ more) l.own
