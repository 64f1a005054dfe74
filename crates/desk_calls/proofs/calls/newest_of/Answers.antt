use Rattle.std.specs.Prelude.{[]}
use Rattle.desk_calls.proofs.Events.{newest-is}
use Rattle.desk_calls.proofs.calls.newest_of.Goals as goal

pub returns : goal.returns
returns g c = newest-is [] c.look.result c.look.new.found.items (g.D.Desk.caller c.args.desk.now) (g.D.Desk.caller c.look.new.self) c.look.ensures.acts c.look.ensures.counts
