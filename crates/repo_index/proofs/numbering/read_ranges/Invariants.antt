use Rattle.std.proofs.Common.{ℕ, List, ◌++◌, take}
use Rattle.std.specs.Prelude.{All}
use Rattle.std.specs.List.{flat_map}
use Rattle.repo_index.specs.Numbers.{AreNumbers, HasRepo, KeepNumbers, range_keys}
use Rattle.repo_index.proofs.numbering.read_ranges.Given as goal

abbrev pub invariant-loop-range : goal.invariant-loop-range
invariant-loop-range l =
    record {
      numbers : (before : List (List ℕ)) → AreNumbers l.fn.keys before l.fn.own.items → AreNumbers l.keys (before ++ flat_map range_keys (take l.range-index l.ranges)) l.own.items;
      kept : KeepNumbers l.fn.keys l.keys;
      repos : All HasRepo (take l.range-index l.ranges);
    }
