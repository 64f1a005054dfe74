-- Sets of GIT ranges (our own).
use Rattle.std.specs.Prelude.{List}
use Rattle.history.specs.declared.past.Past.{Past}
use Rattle.history.specs.Prefixes.{graph}
use Rattle.history.specs.Pieces.{GitRange, repo_of}
use Rattle.impact_set.specs.Standing.{Known, StandsFor}

-- it is the set of the range, on the graph that its repository has after these imports
abbrev pub IsSetOf : List Past → GitRange → Known → Type 0
IsSetOf p x known = StandsFor x.extent.events (graph p (repo_of x)) known
