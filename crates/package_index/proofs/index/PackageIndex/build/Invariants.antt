use Rattle.std.proofs.Common.{◌≡◌, ℕ, List, map, take}
use Rattle.std.specs.Arc.{arc_value}
use Rattle.package_index.specs.Listing.{listed}
use Rattle.package_index.specs.Noted.{IsSound, noted}
use Rattle.package_index.proofs.Rising.{has}
use Rattle.package_index.proofs.index.PackageIndex.build.Given as goal

abbrev pub invariant-loop-index : goal.invariant-loop-index
invariant-loop-index l =
    record {
      sound : IsSound l.growing;
      noted : (e t : List ℕ) (i : ℕ) → noted l.growing e t i ≡ has (listed (map (λ r. arc_value r) (take l.index l.records)) (record { ecosystem = e; name = t })) i;
    }
