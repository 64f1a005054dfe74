use Rattle.std.specs.Arc.{arc_value}
use Rattle.impact_job.proofs.Parting.{split-from}
use Rattle.impact_job.proofs.split.split_at_id.Goals as goal

pub returns : goal.returns
returns c = λ up.
    split-from (λ a. arc_value a) c.args.id.now c.args.records.now _ _ _ _ c.count_below.result c.count_below.ensures.within c.count_below.ensures.point c.split_at.ensures.front c.split_at.ensures.back c.first_with_id.ensures.first c.first_with_id.ensures.rest up
