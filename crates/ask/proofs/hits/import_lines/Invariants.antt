use Rattle.std.proofs.Common.{◌≡◌, ◌≤◌, ℕ, List}
use Rattle.line_input.specs.Lines.{numbered}
use Rattle.line_input.specs.Reader.{KnowsEnd, StandsIn, lines_behind, to_come}
use Rattle.ask.proofs.Reading.{HasRead}
use Rattle.ask.proofs.hits.import_lines.Given as goal

abbrev pub invariant-lines : goal.invariant-lines
invariant-lines g l = record {
  limit : l.reader.limit ≡ l.fn.reader.limit;
  read : (input : List ℕ) → StandsIn input l.fn.reader (g.S.Source.left l.fn.source)
      → StandsIn input l.reader (g.S.Source.left l.source) × HasRead l.subject (numbered 1 input) (lines_behind l.reader.passed input) l.found;
  ends : KnowsEnd l.fn.reader (g.S.Source.left l.fn.source) → KnowsEnd l.reader (g.S.Source.left l.source);
  later : g.S.Source.faults l.fn.source ≤ g.S.Source.faults l.source;
}

abbrev pub decreases-lines : goal.decreases-lines
decreases-lines g l = to_come l.reader
