use Rattle.std.specs.Arc.{arc_value}
use Rattle.desk_calls.proofs.Growing.{grown-is}
use Rattle.desk_calls.proofs.repos.grow_of.Goals as goal

pub returns : goal.returns
returns g c = grown-is c.args.key c.args.version (arc_value c.args.graph) c.grow.result (g.D.Desk.caller c.args.desk.now) (g.D.Desk.caller c.grow.new.self) c.requires c.grow.ensures.acts c.grow.ensures.counts
