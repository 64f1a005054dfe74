use Rattle.git_range.proofs.Naming.{closed_noted}
use Rattle.git_range.proofs.events.note_ended.Goals as goal

pub returns : goal.returns
returns c = closed_noted c.args.graph.now c.args.events.now c.args.number c.args.noted.now c.note_named.new.noted c.requires.fixed c.note_named.auto.noted c.note_named.ensures
