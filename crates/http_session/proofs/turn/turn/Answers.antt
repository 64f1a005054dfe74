use Rattle.std.specs.Io.KnownBytes.{prepend_known}
use Rattle.http_session.proofs.Serving.{served-turn, ended-turn, truncated-turn, fault-turn, cut-turn, failed-turn, refused-turn}
use Rattle.http_session.proofs.turn.turn.Goals as goal

pub returns-in-Request-clause-turn : goal.returns-in-Request-clause-turn
returns-in-Request-clause-turn g c =
    served-turn c.args.settings.now c.args.last (g.D.Desk.caller c.args.desk.now) (g.D.Desk.caller c.serve.new.desk) (prepend_known c.args.held.now (g.S.Source.left c.args.source.now)) (g.K.Sink.held c.args.sink.now) (g.K.Sink.held c.read_asked.new.sink) c.serve.result
    (g.S.Source.left c.read_asked.new.source) (prepend_known c.read_asked.new.held (g.S.Source.left c.read_asked.new.source)) (g.K.Sink.held c.serve.new.sink)
    c.args.marks.now.points.items c.serve.new.marks.points.items c.args.marks.now.signs.items c.serve.new.marks.signs.items c.in-Request.ensures.tells.0 c.read_asked.new.held c.in-Request.ensures.tells.2 (c.serve.ensures.serves c.in-Request.ensures.tells.0 c.in-Request.ensures.tells.1)

pub returns-in-Refused-clause-turn : goal.returns-in-Refused-clause-turn
returns-in-Refused-clause-turn g c =
    refused-turn c.args.settings.now c.args.last (g.D.Desk.caller c.args.desk.now) (prepend_known c.args.held.now (g.S.Source.left c.args.source.now)) (g.K.Sink.held c.args.sink.now) (g.K.Sink.held c.read_asked.new.sink)
    (g.S.Source.left c.read_asked.new.source) (prepend_known c.read_asked.new.held (g.S.Source.left c.read_asked.new.source)) (g.K.Sink.held c.refuse.new.sink)
    c.args.marks.now.points.items c.args.marks.now.signs.items c.in-Refused.fault c.read_asked.new.held c.refuse.result c.in-Refused.ensures.tells c.refuse.ensures.refuses

pub returns-in-Ended-clause-turn : goal.returns-in-Ended-clause-turn
returns-in-Ended-clause-turn g c =
    ended-turn c.args.settings.now c.args.last (g.D.Desk.caller c.args.desk.now) (prepend_known c.args.held.now (g.S.Source.left c.args.source.now)) (g.K.Sink.held c.args.sink.now)
    (g.S.Source.left c.read_asked.new.source) (prepend_known c.read_asked.new.held (g.S.Source.left c.read_asked.new.source)) (g.K.Sink.held c.read_asked.new.sink)
    c.args.marks.now.points.items c.args.marks.now.signs.items c.read_asked.new.held c.in-Ended.ensures.tells

pub returns-in-Truncated-clause-turn : goal.returns-in-Truncated-clause-turn
returns-in-Truncated-clause-turn g c =
    truncated-turn c.args.settings.now c.args.last (g.D.Desk.caller c.args.desk.now) (prepend_known c.args.held.now (g.S.Source.left c.args.source.now)) (g.K.Sink.held c.args.sink.now)
    (g.S.Source.left c.read_asked.new.source) (prepend_known c.read_asked.new.held (g.S.Source.left c.read_asked.new.source)) (g.K.Sink.held c.read_asked.new.sink)
    c.args.marks.now.points.items c.args.marks.now.signs.items c.read_asked.new.held c.in-Truncated.ensures.tells

pub returns-in-ReadFault-clause-turn : goal.returns-in-ReadFault-clause-turn
returns-in-ReadFault-clause-turn g c =
    fault-turn c.args.settings.now c.args.last (g.D.Desk.caller c.args.desk.now) (prepend_known c.args.held.now (g.S.Source.left c.args.source.now)) (g.K.Sink.held c.args.sink.now)
    (g.S.Source.left c.read_asked.new.source) (g.K.Sink.held c.read_asked.new.sink)
    c.args.marks.now.points.items c.args.marks.now.signs.items c.read_asked.new.held c.in-ReadFault.ensures.tells

pub returns-in-WriteFault-clause-turn : goal.returns-in-WriteFault-clause-turn
returns-in-WriteFault-clause-turn g c =
    cut-turn c.args.settings.now c.args.last (g.D.Desk.caller c.args.desk.now) (prepend_known c.args.held.now (g.S.Source.left c.args.source.now)) (g.K.Sink.held c.args.sink.now)
    (g.S.Source.left c.read_asked.new.source) (prepend_known c.read_asked.new.held (g.S.Source.left c.read_asked.new.source)) (g.K.Sink.held c.read_asked.new.sink)
    c.args.marks.now.points.items c.args.marks.now.signs.items c.in-WriteFault.out c.read_asked.new.held c.in-WriteFault.ensures.tells

pub returns-in-Memory-clause-turn : goal.returns-in-Memory-clause-turn
returns-in-Memory-clause-turn g c =
    failed-turn c.args.settings.now c.args.last (g.D.Desk.caller c.args.desk.now) (prepend_known c.args.held.now (g.S.Source.left c.args.source.now)) (g.K.Sink.held c.args.sink.now) (g.K.Sink.held c.read_asked.new.sink)
    (g.S.Source.left c.read_asked.new.source) (prepend_known c.read_asked.new.held (g.S.Source.left c.read_asked.new.source)) (g.K.Sink.held c.fail.new.sink)
    c.args.marks.now.points.items c.args.marks.now.signs.items c.read_asked.new.held c.fail.result c.in-Memory.ensures.tells c.fail.ensures.fails
