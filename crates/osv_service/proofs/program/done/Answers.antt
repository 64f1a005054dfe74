use Rattle.std.proofs.Common.{refl}
use Rattle.ask.specs.Asked.{asked}
use Rattle.ask.specs.Checked.{checked}
use Rattle.ask.specs.Outputs.{within}
use Rattle.osv_service.proofs.Ending.{answers_by, does_ask, does_check, does_replay, does_serve, does_drill}
use Rattle.osv_service.proofs.program.done.Goals as goal

pub returns-in-Ask : goal.returns-in-Ask
returns-in-Ask g c =
    does_ask c.args.command.now c.in-Ask.subject c.in-Ask.input c.end.result _ _ _ _ _ _ _ _ c.in-Ask.is
    (answers_by (within c.in-Ask.input (asked c.in-Ask.subject)) c.ask-output.result c.end.result _ _ _ _ _ _ _ _ c.ask-output.ensures.answer c.ask-output.ensures.failed c.end.ensures)

pub returns-in-Check : goal.returns-in-Check
returns-in-Check g c =
    does_check c.args.command.now c.in-Check.input c.end-in-Check.result _ _ _ _ _ _ _ _ c.in-Check.is
    (answers_by (within c.in-Check.input checked) c.check-output.result c.end-in-Check.result _ _ _ _ _ _ _ _ c.check-output.ensures.answer c.check-output.ensures.failed c.end-in-Check.ensures)

pub returns-in-Replay : goal.returns-in-Replay
returns-in-Replay g c =
    does_replay c.args.command.now c.in-Replay.settings c.replay.result (g.S.Source.left c.args.source.now) (g.S.Source.left c.replay.new.source) (g.K.Sink.held c.args.sink.now) (g.K.Sink.held c.replay.new.sink)
    (g.S.Source.faults c.args.source.now) (g.S.Source.faults c.replay.new.source) (g.K.Sink.faults c.args.sink.now) (g.K.Sink.faults c.replay.new.sink) c.in-Replay.is c.replay.ensures

pub returns-in-Serve : goal.returns-in-Serve
returns-in-Serve g c =
    does_serve c.args.command.now c.in-Serve.settings c.in-Serve.lanes c.in-Serve.helpers c.in-Serve.address c.decline.result _ _ _ _ _ _ _ _ c.in-Serve.is (c.decline.ensures, (refl, refl))

pub returns-in-Drill : goal.returns-in-Drill
returns-in-Drill g c =
    does_drill c.args.command.now c.in-Drill.seed c.in-Drill.size c.drilled.result (g.S.Source.left c.args.source.now) (g.S.Source.left c.args.source.now) (g.K.Sink.held c.args.sink.now) (g.K.Sink.held c.drilled.new.sink)
    (g.S.Source.faults c.args.source.now) (g.S.Source.faults c.args.source.now) (g.K.Sink.faults c.args.sink.now) (g.K.Sink.faults c.drilled.new.sink) c.in-Drill.is (refl, refl) c.drilled.ensures
