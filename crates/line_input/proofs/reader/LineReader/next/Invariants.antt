use Rattle.std.proofs.Common.{◌≡◌, ◌≤◌, ℕ, List}
use Rattle.line_input.specs.Reader.{KnowsEnd, StandsIn, lines_behind, to_come}
use Rattle.line_input.proofs.reader.LineReader.next.Given as goal

abbrev pub invariant-lines : goal.invariant-lines
invariant-lines g l = record {
  limit : l.self.limit ≡ l.initial.self.limit;
  stands : (input : List ℕ) → StandsIn input l.initial.self (g.S.Source.left l.initial.source)
      → StandsIn input l.self (g.S.Source.left l.source) × (lines_behind l.initial.self.passed input ≡ lines_behind l.self.passed input);
  ends : KnowsEnd l.initial.self (g.S.Source.left l.initial.source) → KnowsEnd l.self (g.S.Source.left l.source);
  fewer : to_come l.self ≤ to_come l.initial.self;
  later : g.S.Source.faults l.initial.source ≤ g.S.Source.faults l.source;
}

abbrev pub decreases-lines : goal.decreases-lines
decreases-lines g l = to_come l.self
