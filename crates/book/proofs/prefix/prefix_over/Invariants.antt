use Rattle.std.proofs.Common.{◌++◌, take}
use Rattle.std.specs.Arc.{arc_value}
use Rattle.history.specs.Entries.{History, imports}
use Rattle.snapshot.specs.Snapshots.{StandsFor}
use Rattle.impact_job.specs.Tables.{IsPrefixOf}
use Rattle.book.specs.Entries.{history_of, AreWhole}
use Rattle.book.proofs.prefix.prefix_over.Given as goal

abbrev pub invariant-loop-entry : goal.invariant-loop-entry
invariant-loop-entry l = (h : History) → StandsFor (arc_value l.base) (imports h) → AreWhole h l.later → IsPrefixOf l.prefix (imports h) (imports (h ++ history_of (take l.entry-index l.later)))
