use Rattle.std.proofs.Common.{◌≡◌, map, take}
use Rattle.std.specs.Arc.{arc_value}
use Rattle.osv_record.specs.Imports.{records}
use Rattle.evaluate.specs.Hits.{keyed}
use Rattle.impact_job.proofs.latest.by_id.Given as goal

abbrev pub invariant-loop-record : goal.invariant-loop-record
invariant-loop-record l = map (λ e. (e.0.now, arc_value e.1.now)) l.found.entries ≡ map keyed (records (map (λ a. arc_value a) (take l.record-index l.added)))
