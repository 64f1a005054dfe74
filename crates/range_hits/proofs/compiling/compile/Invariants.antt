use Rattle.std.proofs.Common.{take}
use Rattle.std.specs.List.{AllZip}
use Rattle.range_hits.specs.Forms.{IsFormIn, ranges_of}
use Rattle.range_hits.proofs.compiling.compile.Given as goal

abbrev pub invariant-loop-entry : goal.invariant-loop-entry
invariant-loop-entry l = AllZip IsFormIn (ranges_of (take l.entry-index l.entry-items)) l.forms.items
