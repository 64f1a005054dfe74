use Rattle.std.proofs.Common.{◌≡◌, take}
use Rattle.package_index.proofs.numbers.copy_of.Given as goal

abbrev pub invariant-loop-text : goal.invariant-loop-text
invariant-loop-text l = l.copy.keys ≡ take l.text-index l.text-items
