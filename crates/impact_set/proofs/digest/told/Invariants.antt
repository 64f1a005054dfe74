use Rattle.std.proofs.Common.{◌≡◌, length}
use Rattle.impact_set.specs.Digests.{AreTold}
use Rattle.impact_set.proofs.digest.told.Given as goal

abbrev pub invariant-loop-block : goal.invariant-loop-block
invariant-loop-block l = record { size : length l.blocks.items ≡ l.block; told : AreTold l.blocks.items l.bits }
