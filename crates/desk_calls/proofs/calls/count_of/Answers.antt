use Rattle.desk_calls.proofs.Events.{counted}
use Rattle.desk_calls.proofs.calls.count_of.Goals as goal

pub returns : goal.returns
returns g c = counted c.imports.result (g.D.Desk.caller c.args.desk.now) (g.D.Desk.caller c.imports.new.self) c.imports.ensures.acts c.imports.ensures.counts
