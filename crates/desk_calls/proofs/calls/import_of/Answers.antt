use Rattle.std.specs.Arc.{arc_value}
use Rattle.desk_calls.proofs.Events.{imported}
use Rattle.desk_calls.proofs.calls.import_of.Goals as goal

pub returns : goal.returns
returns g c = imported (arc_value c.args.advisory) c.import.result (g.D.Desk.caller c.args.desk.now) (g.D.Desk.caller c.import.new.self) c.import.ensures.acts c.import.ensures.counts
