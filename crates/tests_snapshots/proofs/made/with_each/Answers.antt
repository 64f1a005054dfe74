use Rattle.std.proofs.Common.{List, [], ◌∷◌, ◌++◌}
use Rattle.std.specs.Arc.{arc_value}
use Rattle.history.specs.declared.past.Past.TheVariants.{Import}
use Rattle.tests_snapshots.proofs.made.with_each.Goals as goal

pub loop-advisory-init : goal.loop-advisory-init
loop-advisory-init c = λ b p x. (p, x)

pub loop-advisory-preserved : goal.loop-advisory-preserved
loop-advisory-preserved c = λ b p x.
    let m = c.loop-advisory.invariant b p x in
    (m.0 ++ Import 0 (arc_value c.in_ok-try_clone.field-0) ∷ [], c.in_ok-import.ensures.ok b m.0 0 m.1)

pub returns : goal.returns
returns c = λ b p x. c.loop-advisory.invariant b p x
