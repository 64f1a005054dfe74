use Rattle.std.proofs.Common.{List, ◌++◌, take}
use Rattle.std.specs.List.{AllZip}
use Rattle.range_hits.specs.Forms.{IsFormIn, Ranged, with_package}
use Rattle.range_hits.proofs.compiling.push_entry.Given as goal

abbrev pub invariant-loop-range : goal.invariant-loop-range
invariant-loop-range l =
    (before : List Ranged) → AllZip IsFormIn before l.fn.forms.items → AllZip IsFormIn (before ++ with_package l.entry.«package» (take l.range-index l.range-items)) l.forms.items
