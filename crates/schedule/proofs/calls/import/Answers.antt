use Rattle.std.specs.Arc.{arc_value}
use Rattle.schedule.proofs.Playing.{entered-import}
use Rattle.schedule.proofs.calls.import.Goals as goal

pub returns-in-Ok-clause-holding : goal.returns-in-Ok-clause-holding
returns-in-Ok-clause-holding c = entered-import c.args.book.now c.import.new.self c.args.by (arc_value c.in_ok-shared.shared) c.args.held.now c.in-Ok.ensures.2 c.requires
