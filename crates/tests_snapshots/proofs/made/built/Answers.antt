use Rattle.std.proofs.Common.{List, subst}
use Rattle.snapshot.specs.declared.job.Finished.{Finished}
use Rattle.snapshot.specs.Jobs.{IsDone}
use Rattle.tests_snapshots.proofs.made.built.Goals as goal

pub filled-requires : goal.filled-requires
filled-requires g c = (c.requires.0, (c.requires.1.0, c.requires.1.1.1))

pub do_job-requires-after_bounds : goal.do_job-requires-after_bounds
do_job-requires-after_bounds g c lifetimes outlived =
    let b = c.requires.0 in
    let p = c.requires.1.0 in
    (b, (p, (c.requires.1.1.0, c.in_ok-filled.ensures b p c.requires.1.1.1)))

pub returns-in-Ok-Assemble : goal.returns-in-Ok-Assemble
returns-in-Ok-Assemble g c =
    let b = c.requires.0 in
    let p = c.requires.1.0 in
    (p, subst (λ (f : Finished). IsDone f b p) c.in-Ok-Assemble.field-0-is (c.in-Ok-Assemble.ensures.done b p (c.requires.1.1.0, c.in_ok-filled.ensures b p c.requires.1.1.1)))
