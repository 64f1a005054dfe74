use Rattle.std.proofs.Common.{◌≡◌, map, take}
use Rattle.snapshot.specs.Jobs.{planned_place}
use Rattle.snapshot.proofs.work.places_of.Given as goal

abbrev pub invariant-loop-one : goal.invariant-loop-one
invariant-loop-one l = l.places.items ≡ map planned_place (take l.one-index l.todo)
