use Rattle.std.proofs.Common.{List}
use Rattle.std.specs.Arc.{arc_value}
use Rattle.history.specs.declared.past.Past.{Past}
use Rattle.snapshot.specs.Snapshots.{StandsFor}
use Rattle.tests_snapshots.proofs.made.last_of.Given as goal

abbrev pub invariant-loop-count : goal.invariant-loop-count
invariant-loop-count g l = (p : List Past) × StandsFor (arc_value l.snapshot) p
