use Rattle.http_session.proofs.Serving.{failed-session}
use Rattle.http_session.proofs.session.serve_from.Goals as goal

pub returns-in-Err-clause-session : goal.returns-in-Err-clause-session
returns-in-Err-clause-session g c =
    failed-session c.args.settings.now (g.D.Desk.caller c.args.desk.now) (g.S.Source.left c.args.source.now) (g.K.Sink.held c.args.sink.now) (g.K.Sink.held c.fail.new.sink)
    c.args.marks.now.points.items c.args.marks.now.signs.items c.fail.result c.requires.some c.requires.points c.requires.signs c.fail.ensures.fails
