use Rattle.std.proofs.Common.{◌≡◌, ◌≤◌, length, take}
use Rattle.order_pypi.specs.Grammar.{trim_end}
use Rattle.order_pypi.proofs.scan.trim_end.Given as goal

abbrev pub invariant-loop-end : goal.invariant-loop-end
invariant-loop-end l = record {
  within : l.end ≤ length l.text;
  space_behind : trim_end (take l.end l.text) ≡ trim_end l.text;
}

abbrev pub decreases-loop-end : goal.decreases-loop-end
decreases-loop-end l = l.end
