use Rattle.std.proofs.Common.{◌≡◌, ℕ, ◌&&◌, ◌||◌, eqb, List, length, map, take}
use Rattle.std.specs.Arc.{arc_value}
use Rattle.std.specs.List.{list_any}
use Rattle.package_index.specs.Listing.{lists_at}
use Rattle.package_index.specs.Numbers.{number_of}
use Rattle.package_index.specs.Noted.{IsSound, noted, moved_at}
use Rattle.package_index.proofs.index.PackageIndex.renew.Given as goal

abbrev pub invariant-loop-place : goal.invariant-loop-place
invariant-loop-place l =
    record {
      sound : IsSound l.growing;
      noted : (e t : List ℕ) (j : ℕ) → noted l.growing e t j
          ≡ (moved_at l.self.entries l.moves.moved.items (length l.records) (number_of l.self.names t) (number_of l.self.ecosystems e) j
          || list_any (λ a. lists_at (map (λ r. arc_value r) l.records) (record { ecosystem = e; name = t }) a && eqb a j) (take l.place-index l.place-items));
    }
