use Rattle.std.proofs.Common.{◌≡◌, false, take, get_or}
use Rattle.std.specs.List.{list_any}
use Rattle.impact_set.proofs.bits.Bits.any.Given as goal

abbrev pub invariant-loop-number : goal.invariant-loop-number
invariant-loop-number l = list_any (λ n. get_or l.self n false) (take l.number-index l.numbers) ≡ false
