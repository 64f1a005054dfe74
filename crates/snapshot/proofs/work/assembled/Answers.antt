use Rattle.std.proofs.Common.{sym, subst}
use Rattle.snapshot.specs.declared.snapshot.Snapshot.{Snapshot}
use Rattle.snapshot.specs.Snapshots.{StandsFor}
use Rattle.snapshot.proofs.work.assembled.Goals as goal

pub returns-clause-stands : goal.returns-clause-stands
returns-clause-stands c = λ b p base is.
    subst (λ (s : Snapshot). StandsFor s p) (sym c.in_ok-new.ensures.ok) (c.in_ok-assemble.ensures.stands b p base is)
