use Rattle.std.proofs.Common.{map}
use Rattle.std.specs.Arc.{arc_value}
use Rattle.impact_job.proofs.Parting.{ascending}
use Rattle.id_index.proofs.There.{there}
use Rattle.id_index.proofs.index.IdIndex.find.Goals as goal

pub returns-in-Some : goal.returns-in-Some
returns-in-Some c = λ is up.
    there c.args.id.now (map (λ a. arc_value a) c.args.records.now) c.in-Some.ensures.place (arc_value c.in-Some.found.now)
    (ascending (map (λ a. arc_value a) c.args.records.now) up) c.in-Some.ensures.at c.in-Some.ensures.same
