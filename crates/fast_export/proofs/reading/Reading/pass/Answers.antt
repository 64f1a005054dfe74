use Rattle.std.proofs.Common.{length, arith, refl, length-drop, ap}
use Rattle.std.proofs.lemmas.List.{take_rest}
use Rattle.fast_export.proofs.Resumes.{going-part}
use Rattle.fast_export.proofs.reading.Reading.pass.Goals as goal

pub returns-clause-leads : goal.returns-clause-leads
returns-clause-leads c =
    let h = c.min-count.ensures in
    record {
      same = λ more. rw c.requires.going (going-part _ _ _ _ c.args.self.now.at c.args.self.now.skip c.min-count.result c.args.text.now more (omega arith) (omega arith));
      count = omega (arith, ap length (take_rest c.args.text.now c.min-count.result), length-drop c.min-count.result c.args.text.now);
      most = refl;
    }
