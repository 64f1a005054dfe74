use Rattle.std.specs.Io.KnownBytes.{prepend_known}
use Rattle.http_session.proofs.Streaming.{behind-body, behind-stream}
use Rattle.http_session.proofs.asked.read_behind.Goals as goal

pub returns-in-Come-clause-tells : goal.returns-in-Come-clause-tells
returns-in-Come-clause-tells g c =
    behind-stream c.args.most c.args.request c.args.rest (prepend_known c.args.held.now (g.S.Source.left c.args.source.now)) (prepend_known c.read_stream.new.held (g.S.Source.left c.read_stream.new.source))
    c.in-Come.come (c.is_streamed.ensures c.if-is_streamed.true) c.in-Come.ensures.tells

pub returns-in-Whole-clause-tells : goal.returns-in-Whole-clause-tells
returns-in-Whole-clause-tells g c =
    behind-body c.args.most c.args.request c.with_body.result c.args.rest (prepend_known c.args.held.now (g.S.Source.left c.args.source.now)) (prepend_known c.read_body.new.held (g.S.Source.left c.read_body.new.source))
    c.in-Whole.body c.with_body.ensures c.in-Whole.ensures.tells
