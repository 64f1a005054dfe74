use Rattle.std.proofs.Common.{◌+◌, length, ◌≤◌, arith, refl, length-append, ap}
use Rattle.fast_export.proofs.Resumes.{going-kept, going-too_long, clean-extended, length-extended}
use Rattle.fast_export.proofs.reading.Reading.keep.Goals as goal

pub returns-then-len-front-gt-MAX_LINE_BYTES-clause-err : goal.returns-then-len-front-gt-MAX_LINE_BYTES-clause-err
returns-then-len-front-gt-MAX_LINE_BYTES-clause-err c = λ ne more.
    rw (c.requires.going.0, c.requires.going.1) (going-too_long _ _ _ c.args.self.now.line.items c.args.front.now c.args.self.now.at more c.args.self.now.clean c.requires.clean (omega arith))

pub invariant_of-self : goal.invariant_of-self
invariant_of-self c =
    let line = c.args.self.now.line.items in
    let new = c.extend_from_slice.new.self.items in
    let h = c.extend_from_slice.ensures.items in
    let len : length new ≤ length line + length c.args.front.now = length-extended _ line c.args.front.now new h in
    record {
      clean = clean-extended _ line c.args.front.now new h c.args.self.now.clean c.requires.clean;
      short = omega (arith, len);
      bounded = omega (arith, len);
    }

pub returns-clause-ok : goal.returns-clause-ok
returns-clause-ok c =
    let e = c.in_ok-extend_from_slice.ensures.items in
    record {
      same = λ more. rw (c.requires.going.0, c.requires.going.1) (going-kept _ _ _ c.args.self.now.line.items c.args.front.now _ c.args.self.now.at more e);
      count = omega (arith, ap length e, length-append c.args.self.now.line.items c.args.front.now);
      most = refl;
    }
