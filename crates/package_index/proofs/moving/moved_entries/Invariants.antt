use Rattle.std.proofs.Common.{◌≡◌, ℕ, take}
use Rattle.std.specs.List.{list_any, zip}
use Rattle.package_index.specs.Noted.{is_entry, is_moved_entry, AreGiven}
use Rattle.package_index.proofs.moving.moved_entries.Given as goal

abbrev pub invariant-loop-index : goal.invariant-loop-index
invariant-loop-index l =
    record {
      given : (names ecosystems : ℕ) → AreGiven names ecosystems (zip l.keys l.places) → AreGiven names ecosystems l.entries.items;
      noted : (n m j : ℕ) → list_any (is_entry n m j) l.entries.items ≡ list_any (is_moved_entry l.moved l.count n m j) (take l.index (zip l.keys l.places));
    }
