use Rattle.desk_calls.proofs.Pulling.{pulled-is}
use Rattle.desk_calls.proofs.calls.pull_of.Goals as goal

pub returns : goal.returns
returns g c = pulled-is c.args.goal c.pull.result (g.D.Desk.caller c.args.desk.now) (g.D.Desk.caller c.pull.new.self) c.pull.ensures.acts c.pull.ensures.counts
