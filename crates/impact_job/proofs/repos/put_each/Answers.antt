use Rattle.std.proofs.Common.{map, ap, ◌∙◌}
use Rattle.std.specs.Arc.{arc_value}
use Rattle.impact_job.proofs.Graphs.{inserted, one_graph}
use Rattle.impact_job.proofs.repos.put_each.Goals as goal

pub loop-key-preserved : goal.loop-key-preserved
loop-key-preserved c =
    ap (map (λ e. (e.0.now, arc_value e.1.now))) c.in_ok-insert.ensures.entries
    ∙ inserted (λ a. arc_value a.now) c.loop-key.found.entries _ _
    ∙ one_graph (λ g. (g.0, arc_value g.1)) _ _ c.args.repos.now c.loop-key.key-index c.loop-key-item.result c.loop-key-test.true c.loop-key-item.is c.loop-key.invariant
