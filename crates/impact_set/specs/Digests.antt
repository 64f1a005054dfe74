-- What is told of the blocks of 4,096 of some bits (our own).
use Rattle.std.specs.Prelude.{◌≡◌, ℕ, ◌+◌, ◌/◌, ◌<◌, Bool, true, false, List, length, slice_index_or}
use Rattle.impact_set.specs.declared.digest.Block.{Block}
use Rattle.impact_set.specs.declared.digest.Block.TheVariants.{Empty, Full, Mixed}

-- what is told of a block holds of this bit of it
abbrev pub IsTold : Block → Bool → Type 0
IsTold Empty bit = bit ≡ false
IsTold Full bit = bit ≡ true
IsTold Mixed bit = Unit {0}

-- what is told of the first blocks holds of each bit of them
abbrev pub AreTold : List Block → List Bool → Type 0
AreTold blocks bits = (n : ℕ) → n / 4096 < length blocks → n < length bits → IsTold (slice_index_or blocks (n / 4096) Mixed) (slice_index_or bits n false)

-- each block of the bits is told of
pub record IsDigest (blocks : List Block) (bits : List Bool) : Type 0 where
  pub size : length blocks ≡ length bits / 4096 + 1
  pub told : AreTold blocks bits
