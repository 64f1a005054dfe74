use Rattle.std.specs.Arc.{arc_value}
use Rattle.impact_job.specs.Tables.{repos_seen}
use Rattle.impact_job.proofs.Graphs.{both_parts}
use Rattle.impact_job.proofs.repos.by_key.Goals as goal

pub returns : goal.returns
returns c =
    both_parts (λ e. (e.0.now, arc_value e.1.now)) c.in_ok-found.found.entries _ _ (repos_seen c.args.base.now) (repos_seen c.args.grown.now) c.in_ok-found.ensures.empty c.in_ok-put_each.ensures c.in_ok-put_each-2.ensures
