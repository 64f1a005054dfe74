use Rattle.snapshot.specs.Jobs.{outcome}
use Rattle.desks.proofs.Events.{handed_in}
use Rattle.desks.proofs.own_desk.OwnDeskDesk.finish.Goals as goal

pub returns-clause-acts : goal.returns-clause-acts
returns-clause-acts c =
    handed_in (outcome c.args.finished) c.finish-answer.result.0 c.args.self.now.book c.finish-answer.new.self c.turn.new.self.book c.args.self.now.busy c.args.self.now.turns c.args.self.now.outs c.turn.new.self.busy c.saturating_add-self.result c.turn.new.self.outs
    c.args.self.now.last c.turn.new.self.last c.note-found.result c.finish-answer.ensures c.args.self.now.enrolled c.note-found.ensures.sound c.turn.ensures.sound c.turn.ensures.book c.note-found.ensures.note c.turn.ensures.last
