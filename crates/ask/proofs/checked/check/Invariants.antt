use Rattle.std.proofs.Common.{◌≡◌, ◌≤◌, ℕ, List, Some}
use Rattle.line_input.specs.Reader.{KnowsEnd, to_come}
use Rattle.ask.proofs.CheckedLines.{HasChecked}
use Rattle.ask.proofs.checked.check.Given as goal

abbrev pub invariant-lines : goal.invariant-lines
invariant-lines g l = record {
  limit : l.reader.limit ≡ l.limit;
  checked : (input : List ℕ) → g.S.Source.left l.fn.source ≡ Some input → HasChecked input l.reader (g.S.Source.left l.source) l.verdicts;
  ends : KnowsEnd l.reader (g.S.Source.left l.source);
  later : g.S.Source.faults l.fn.source ≤ g.S.Source.faults l.source;
}

abbrev pub decreases-lines : goal.decreases-lines
decreases-lines g l = to_come l.reader
