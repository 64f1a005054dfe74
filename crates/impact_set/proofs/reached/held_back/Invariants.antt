use Rattle.std.proofs.Common.{◌≡◌, length, take}
use Rattle.impact_set.proofs.Holding.{AreUnmarked, AreListed}
use Rattle.impact_set.proofs.reached.held_back.Given as goal

abbrev pub invariant-loop-number : goal.invariant-loop-number
invariant-loop-number l =
    record {
      size : length l.marks ≡ length l.fn.marks;
      unmarked : AreUnmarked l.fn.marks (take l.number-index l.last_affected) l.marks;
      listed : AreListed l.fn.marks (take l.number-index l.last_affected) l.held.items;
    }
