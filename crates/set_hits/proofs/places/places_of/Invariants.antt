use Rattle.std.proofs.Common.{◌≡◌, map, take}
use Rattle.std.specs.Arc.{arc_value}
use Rattle.set_hits.specs.Places.{places_of}
use Rattle.set_hits.proofs.places.places_of.Given as goal

abbrev pub invariant-loop-key : goal.invariant-loop-key
invariant-loop-key l = map (λ x. (x.0.now, x.1)) l.places.items ≡ places_of (map (λ g. (g.0, arc_value g.1)) (take l.key-index l.repos)) l.commit
