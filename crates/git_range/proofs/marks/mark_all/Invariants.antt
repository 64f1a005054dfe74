use Rattle.std.proofs.Common.{take}
use Rattle.git_range.proofs.Marking.{IsMarked}
use Rattle.git_range.proofs.marks.mark_all.Given as goal

abbrev pub invariant-loop-number : goal.invariant-loop-number
invariant-loop-number l = IsMarked (take l.number-index l.numbers) l.fn.marks l.marks
