use Rattle.std.proofs.Common.{◌≡◌, ◌++◌, map, length, take}
use Rattle.impact_job.proofs.counts.put_each.Given as goal

abbrev pub invariant-loop-own : goal.invariant-loop-own
invariant-loop-own l = l.counts.items ≡ l.fn.counts.items ++ map (λ own. length own) (take l.own-index l.sets)
