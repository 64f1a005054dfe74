use Rattle.std.proofs.Common.{length, arith, ap, length-append}
use Rattle.fast_export.proofs.Resumes.{clean-kept}
use Rattle.fast_export.proofs.reading.Reading.offer.Goals as goal

pub invariant_of-self-in-Break-branch-2 : goal.invariant_of-self-in-Break-branch-2
invariant_of-self-in-Break-branch-2 c =
    let e = c.in_ok-extend_from_slice.ensures.items in
    record {
      clean = clean-kept c.args.self.now.line.items c.args.front.now _ e c.args.self.now.clean c.requires.clean;
      short = omega (arith, ap length e, length-append c.args.self.now.line.items c.args.front.now);
      bounded = omega (arith, ap length e, length-append c.args.self.now.line.items c.args.front.now);
    }
