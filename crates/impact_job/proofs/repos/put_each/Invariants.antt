use Rattle.std.proofs.Common.{◌≡◌, map, take}
use Rattle.std.specs.Arc.{arc_value}
use Rattle.impact_job.specs.Tables.{repos_seen, with_graphs}
use Rattle.impact_job.proofs.repos.put_each.Given as goal

abbrev pub invariant-loop-key : goal.invariant-loop-key
invariant-loop-key l = map (λ e. (e.0.now, arc_value e.1.now)) l.found.entries ≡ with_graphs (map (λ e. (e.0.now, arc_value e.1.now)) l.fn.found.entries) (repos_seen (take l.key-index l.repos))
