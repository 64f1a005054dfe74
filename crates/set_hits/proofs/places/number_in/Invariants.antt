use Rattle.std.proofs.Common.{◌≡◌, length, map}
use Rattle.set_hits.specs.Places.{number_in}
use Rattle.set_hits.proofs.places.number_in.Given as goal

abbrev pub invariant-loop-rest : goal.invariant-loop-rest
invariant-loop-rest l = number_in (map (λ x. (x.0.now, x.1)) l.rest) l.key ≡ number_in (map (λ x. (x.0.now, x.1)) l.places) l.key

abbrev pub decreases-loop-rest : goal.decreases-loop-rest
decreases-loop-rest l = length l.rest
