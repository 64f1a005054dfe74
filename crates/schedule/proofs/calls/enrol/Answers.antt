use Rattle.schedule.proofs.Holding.{enrolled}
use Rattle.schedule.proofs.calls.enrol.Goals as goal

pub returns-in-Ok-clause-holding : goal.returns-in-Ok-clause-holding
returns-in-Ok-clause-holding c = enrolled c.args.book.now c.enrol.new.self c.args.held.now.items c.reserve.new.self.items c.push_reserved.new.self.items c.reserve.ensures.items c.push_reserved.ensures.items c.in-Ok.ensures.2 c.requires
