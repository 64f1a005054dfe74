use Rattle.std.proofs.Common.{◌≡◌, List, length, map, take}
use Rattle.std.specs.Arc.{arc_value}
use Rattle.osv_record.specs.Advisories.{Advisory}
use Rattle.form_index.specs.Index.{AreKept, ArePlaced, Part, Stay}
use Rattle.form_index.proofs.growing.placed.Given as goal

abbrev pub invariant-loop-place : goal.invariant-loop-place
invariant-loop-place l =
    (parts : List Part) (old : List Advisory) → l.count ≡ length parts → Stay l.moved old (map (λ a. arc_value a) l.records) → AreKept parts old l.places
    → ArePlaced parts l.growing.forms.items (map (λ a. arc_value a) (take l.place l.records)) l.growing.places.items
