use Rattle.std.proofs.Common.{◌∷◌, length, length-append, arith, ap}
use Rattle.std.proofs.lemmas.Result.{err_from_is_err_and}
use Rattle.fast_export.proofs.Resumes.{line_refused, line_faulty, line_ends, line_goes}
use Rattle.fast_export.proofs.reading.Reading.take_line.Goals as goal

pub returns-then-len-front-gt-MAX_LINE_BYTES-clause-err : goal.returns-then-len-front-gt-MAX_LINE_BYTES-clause-err
returns-then-len-front-gt-MAX_LINE_BYTES-clause-err c = λ after ne more.
    rw (c.requires.going.0, c.requires.going.1)
    (line_refused _ _ _ c.args.self.now.line.items c.args.front.now after c.args.self.now.at more c.args.self.now.clean c.requires.clean (omega arith))

pub returns-in_err-then-clause-err : goal.returns-in_err-then-clause-err
returns-in_err-then-clause-err c =
    let h = c.in_err-then.ensures.line in
    let p = err_from_is_err_and c.from_residual.result c.from_residual.ensures.1 in
    rw (p.1, p.2) (λ after ne more.
    rw (c.requires.going.0, c.requires.going.1)
    (line_faulty _ _ _ c.args.self.now.line.items c.args.front.now after c.args.self.now.at more _ c.args.self.now.clean c.requires.clean (omega arith) (h ne)))

pub returns-in-Skip-clause-ok : goal.returns-in-Skip-clause-ok
returns-in-Skip-clause-ok c = λ after.
    let h = c.in_ok-then.ensures in
    let goes = rw c.in-Skip.is at h.line in
    record {
      same = λ more. rw (c.in_ok-then.ensures.ended, c.requires.going.0, c.requires.going.1)
          (line_goes _ _ _ c.args.self.now.line.items c.args.front.now after c.args.self.now.at more _ _ _ c.offer.new.self.line.items _ c.in-Skip.count c.args.self.now.clean c.requires.clean (omega arith) goes h.empty h.most (omega arith));
      count = omega (arith, ap length h.empty, length-append c.args.front.now (10 ∷ after));
      most = h.most;
    }

pub returns-in-Ends-clause-ok : goal.returns-in-Ends-clause-ok
returns-in-Ends-clause-ok c = λ after.
    let h = c.in_ok-then.ensures in
    let ends = rw c.in-Ends.is at h.line in
    record {
      same = λ more. rw (c.requires.going.0, c.requires.going.1)
          (line_ends _ _ _ c.args.self.now.line.items c.args.front.now after c.args.self.now.at more _ c.args.self.now.clean c.requires.clean (omega arith) ends);
      count = omega (arith, ap length h.empty, length-append c.args.front.now (10 ∷ after));
      most = h.most;
    }
