use Rattle.std.proofs.Common.{List}
use Rattle.history.specs.declared.past.Past.{Past}
use Rattle.impact_job.specs.Tables.{IsPrefixOf}
use Rattle.tests_snapshots.proofs.made.with_each.Given as goal

abbrev pub invariant-loop-advisory : goal.invariant-loop-advisory
invariant-loop-advisory l = (b p : List Past) → IsPrefixOf l.fn.prefix b p → (q : List Past) × IsPrefixOf l.longer b q
