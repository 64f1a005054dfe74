use Rattle.std.proofs.Common.{◌≡◌, ℕ, ◌&&◌, ◌||◌, eqb, List, take}
use Rattle.std.specs.List.{list_any}
use Rattle.package_index.specs.Listing.{has_package}
use Rattle.package_index.specs.Noted.{IsSound, noted}
use Rattle.package_index.proofs.growing.add_record.Given as goal

abbrev pub invariant-loop-entry : goal.invariant-loop-entry
invariant-loop-entry l =
    record {
      sound : IsSound l.growing;
      noted : (e t : List ℕ) (i : ℕ) → noted l.growing e t i ≡ (noted l.fn.growing e t i || (list_any (λ a. has_package (record { ecosystem = e; name = t }) a.«package») (take l.entry-index l.entry-items) && eqb l.index i));
    }
