use Rattle.std.proofs.Common.{List, sym, subst}
use Rattle.impact_job.specs.Tables.{AreSetsOf}
use Rattle.repo_index.proofs.Zipped.{at-both, none-at}
use Rattle.repo_index.proofs.lists.sets_at.Goals as goal

pub returns-in-Some : goal.returns-in-Some
returns-in-Some c = λ p advisories r all at.
    subst (λ (own : List _). AreSetsOf p r own) (sym c.as_slice.ensures) (at-both (AreSetsOf p) advisories c.args.sets.now c.args.index r c.in-Some.own.now all at (sym c.in-Some.ensures))

pub returns-in-None : goal.returns-in-None
returns-in-None c = λ p advisories r all at. absurd (none-at (AreSetsOf p) advisories c.args.sets.now c.args.index r all at (sym c.in-None.ensures))
