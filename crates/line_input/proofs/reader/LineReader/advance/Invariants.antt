use Rattle.std.proofs.Common.{◌≡◌, ◌≤◌, ◌+◌, ◌-◌, ℕ, List, length}
use Rattle.line_input.specs.Lines.{NoneBefore}
use Rattle.line_input.specs.Reader.{KnowsEnd, StandsIn, to_come}
use Rattle.line_input.specs.Window.{items}
use Rattle.line_input.proofs.Standing.{Reads}
use Rattle.line_input.proofs.reader.LineReader.advance.Given as goal

abbrev pub invariant-reading : goal.invariant-reading
invariant-reading g l = record {
  searched : l.searched ≤ length (items l.self.window);
  none : NoneBefore (items l.self.window) l.searched;
  given : l.self.given ≡ 0;
  passed : l.self.passed ≡ l.fn.self.passed;
  limit : l.self.limit ≡ l.fn.self.limit;
  reads : (input : List ℕ) → StandsIn input l.fn.self (g.S.Source.left l.fn.source) → Reads input l.fn.self l.self (g.S.Source.left l.source);
  ends : KnowsEnd l.fn.self (g.S.Source.left l.fn.source) → KnowsEnd l.self (g.S.Source.left l.source);
  fewer : to_come l.self ≤ to_come l.fn.self;
  later : g.S.Source.faults l.fn.source ≤ g.S.Source.faults l.source;
}

abbrev pub decreases-reading : goal.decreases-reading
decreases-reading g l = l.self.limit + 1 - l.self.taken
