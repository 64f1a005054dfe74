use Rattle.std.proofs.Common.{◌≡◌, ℕ, List}
use Rattle.id_index.specs.Heads.{head, head_from, BeginsWithBytes}
use Rattle.id_index.proofs.Digits.{HasRoom}
use Rattle.id_index.proofs.head.head.Given as goal

pub record Round (digits left : ℕ) (rest id : List ℕ) : Type 0 where
  pub value : head_from digits left rest ≡ head id
  pub bytes : BeginsWithBytes left rest → BeginsWithBytes 16 id
  pub room : HasRoom digits left

abbrev pub invariant-loop-left : goal.invariant-loop-left
invariant-loop-left l = Round l.head l.left l.rest l.fn.id

abbrev pub decreases-loop-left : goal.decreases-loop-left
decreases-loop-left l = l.left
