use Rattle.std.proofs.Common.{map, drop}
use Rattle.std.specs.Arc.{arc_value}
use Rattle.osv_record.specs.Imports.{records_from}
use Rattle.impact_job.specs.Order.{Ascend}
use Rattle.impact_job.proofs.Moving.{MovedSoFar}
use Rattle.impact_job.proofs.moves.moves_of.Given as goal

abbrev pub invariant-loop-record : goal.invariant-loop-record
invariant-loop-record l =
    let base = map (λ a. arc_value a) l.base in
    let changed = map (λ a. arc_value a.now) l.changed in
    Ascend base → Ascend changed → MovedSoFar l.moves base (map (λ a. arc_value a) l.rest) (map (λ a. arc_value a.now) (drop l.record-index l.changed)) (records_from base changed)
