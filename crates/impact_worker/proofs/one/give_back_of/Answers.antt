use Rattle.snapshot.specs.Jobs.{name}
use Rattle.desk_calls.proofs.Pulling.{given-back}
use Rattle.impact_worker.proofs.one.give_back_of.Goals as goal

pub returns : goal.returns
returns g c = record {
  handed = given-back (name c.args.job) c.give_back.result (g.D.Desk.caller c.args.desk.now) (g.D.Desk.caller c.give_back.new.self) c.give_back.ensures.acts c.give_back.ensures.counts;
  counts = c.give_back.ensures.counts;
}
