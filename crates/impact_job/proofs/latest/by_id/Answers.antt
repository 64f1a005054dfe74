use Rattle.std.proofs.Common.{List, map, take, refl, sym, ap, ◌∙◌}
use Rattle.std.specs.Arc.{arc_value}
use Rattle.osv_record.specs.Advisories.{Advisory}
use Rattle.osv_record.specs.Imports.{records}
use Rattle.evaluate.specs.Hits.{keyed}
use Rattle.evaluate.proofs.ById.{pair, one_more}
use Rattle.impact_job.proofs.ById.{inserted}
use Rattle.impact_job.proofs.latest.by_id.Goals as goal

pub loop-record-preserved : goal.loop-record-preserved
loop-record-preserved c =
    ap (map (pair (λ x. arc_value x.now))) c.in_ok-insert.ensures.entries
    ∙ inserted (λ x. arc_value x.now) c.loop-record.found.entries _ _ (map (λ a. arc_value a) (take c.loop-record.record-index c.args.added.now)) (arc_value c.record-item.result) (ap (λ (y : Advisory). y.id) (c.behind-record.view_is ∙ c.deref.ensures)) refl c.loop-record.invariant
    ∙ ap (λ (xs : List Advisory). map keyed (records xs)) (sym (one_more (λ a. arc_value a) c.args.added.now c.loop-record.record-index c.record-item.result c.loop-record-test.true c.record-item.is))
