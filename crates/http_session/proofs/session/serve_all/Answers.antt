use Rattle.std.proofs.Common.{◌≡◌, ◌<◌, false, leb, refl, arith}
use Rattle.std.proofs.lemmas.Bool.Decides.{nat_tests}
use Rattle.std.specs.Io.KnownBytes.{prepend_known}
use Rattle.session_model.proofs.Sessions.{turn-more, turn-ends}
use Rattle.http_session.proofs.Serving.{none-read}
use Rattle.http_session.proofs.session.serve_all.Goals as goal

pub requests-init : goal.requests-init
requests-init g c = record {
  some = omega (arith, c.requires.some);
  same = c.requires.same;
  so_far = none-read c.args.settings.now (g.D.Desk.caller c.args.desk.now) (g.S.Source.left c.args.source.now) (g.K.Sink.held c.args.sink.now) c.args.held.now
      c.args.marks.now.points.items c.args.marks.now.signs.items c.requires.held c.requires.points c.requires.signs;
  read_later = omega arith;
  write_later = omega arith;
}

pub requests-preserved : goal.requests-preserved
requests-preserved g c =
    let more : leb c.requests.left 1 ≡ false = c.in-None.ensures.more refl in
    let two : 1 < c.requests.left = grind (arith, nat_tests) in
    record {
      some = omega (arith, two);
      same = c.in-None.ensures.same;
      so_far = turn-more c.args.settings.now c.requests.left (g.D.Desk.caller c.args.desk.now) (g.D.Desk.caller c.requests.desk) (g.D.Desk.caller c.turn.new.desk) (g.S.Source.left c.args.source.now) (g.K.Sink.held c.args.sink.now)
          (prepend_known c.requests.held (g.S.Source.left c.requests.source)) (g.K.Sink.held c.requests.sink) (g.S.Source.left c.turn.new.source) (prepend_known c.turn.new.held (g.S.Source.left c.turn.new.source)) (g.K.Sink.held c.turn.new.sink)
          c.requests.marks.points.items c.turn.new.marks.points.items c.requests.marks.signs.items c.turn.new.marks.signs.items c.requests.invariant.some c.requests.invariant.so_far c.in-None.ensures.turn;
      read_later = omega (arith, c.requests.invariant.read_later, c.turn.ensures.read_later);
      write_later = omega (arith, c.requests.invariant.write_later, c.turn.ensures.write_later);
    }

pub returns-in-Some-clause-session : goal.returns-in-Some-clause-session
returns-in-Some-clause-session g c =
    turn-ends c.args.settings.now c.requests.left (g.D.Desk.caller c.args.desk.now) (g.D.Desk.caller c.requests.desk) (g.D.Desk.caller c.turn.new.desk) (g.S.Source.left c.args.source.now) (g.K.Sink.held c.args.sink.now)
    (prepend_known c.requests.held (g.S.Source.left c.requests.source)) (g.K.Sink.held c.requests.sink) (g.S.Source.left c.turn.new.source) (prepend_known c.turn.new.held (g.S.Source.left c.turn.new.source)) (g.K.Sink.held c.turn.new.sink)
    c.requests.marks.points.items c.turn.new.marks.points.items c.requests.marks.signs.items c.turn.new.marks.signs.items c.in-Some.end c.requests.invariant.some c.requests.invariant.so_far c.in-Some.ensures.turn
