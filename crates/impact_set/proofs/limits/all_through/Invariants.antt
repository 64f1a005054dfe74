use Rattle.std.proofs.Common.{◌≡◌, ℕ, ◌<◌, true, false, length, get_or}
use Rattle.impact_set.proofs.limits.all_through.Given as goal

abbrev pub invariant-loop-number : goal.invariant-loop-number
invariant-loop-number l = record { size : length l.all ≡ l.count; each : (n : ℕ) → n < l.number → get_or l.all n false ≡ true }
