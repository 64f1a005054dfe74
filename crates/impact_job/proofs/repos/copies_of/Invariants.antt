use Rattle.std.proofs.Common.{◌≡◌, map, take}
use Rattle.std.specs.Arc.{arc_value}
use Rattle.impact_job.specs.Tables.{repos_seen}
use Rattle.impact_job.proofs.repos.copies_of.Given as goal

abbrev pub invariant-loop-key : goal.invariant-loop-key
invariant-loop-key l = repos_seen l.copies.items ≡ map (λ e. (e.0.now, arc_value e.1.now)) (take l.key-index l.entries)
