use Rattle.std.proofs.Common.{ℕ, List, ◌++◌, take}
use Rattle.std.specs.Prelude.{All}
use Rattle.std.specs.List.{flat_map}
use Rattle.repo_index.specs.Numbers.{AreNumbers, HasRepos, KeepNumbers, entry_keys}
use Rattle.repo_index.proofs.numbering.read_entries.Given as goal

abbrev pub invariant-loop-entry : goal.invariant-loop-entry
invariant-loop-entry l =
    record {
      numbers : (before : List (List ℕ)) → AreNumbers l.fn.keys before l.fn.own.items → AreNumbers l.keys (before ++ flat_map entry_keys (take l.entry-index l.entries)) l.own.items;
      kept : KeepNumbers l.fn.keys l.keys;
      repos : All HasRepos (take l.entry-index l.entries);
    }
