use Rattle.std.proofs.Common.{List, map, drop}
use Rattle.std.specs.Arc.{arc_value}
use Rattle.osv_record.specs.Imports.{records_from}
use Rattle.history.specs.declared.past.Past.{Past}
use Rattle.history.specs.Prefixes.{records}
use Rattle.impact_job.specs.Order.{Ascend}
use Rattle.impact_job.specs.Tables.{StandsFor}
use Rattle.impact_job.proofs.Counting.{Counting}
use Rattle.impact_job.proofs.counts.counts_of.Given as goal

abbrev pub invariant-loop-record : goal.invariant-loop-record
invariant-loop-record l =
    (b : List Past) → StandsFor l.base b → Ascend (map (λ a. arc_value a.now) l.changed)
    → Counting b l.counts.items (map (λ a. arc_value a) l.rest) l.sets (map (λ a. arc_value a.now) (drop l.record-index l.changed)) (records_from (records b) (map (λ a. arc_value a.now) l.changed))
