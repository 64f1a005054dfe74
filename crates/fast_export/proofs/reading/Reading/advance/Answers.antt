use Rattle.std.proofs.Common.{arith, refl}
use Rattle.fast_export.proofs.reading.Reading.advance.Goals as goal

pub returns-then-self-clause-ok : goal.returns-then-self-clause-ok
returns-then-self-clause-ok c =
    record {
      same = λ more. rw c.if-self.true refl;
      count = omega arith;
      most = refl;
    }
