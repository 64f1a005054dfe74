use Rattle.std.proofs.Common.{◌≡◌, ◌≤◌, ℕ, List}
use Rattle.line_input.specs.Reader.{Holds, to_come}
use Rattle.line_input.proofs.reader.LineReader.ends_within.Given as goal

abbrev pub invariant-pieces : goal.invariant-pieces
invariant-pieces g l = record {
  limit : l.self.limit ≡ l.initial.self.limit;
  holds : (rest : List ℕ) → (total : ℕ) → Holds rest total l.initial.self (g.S.Source.left l.initial.source) → (after : List ℕ) × Holds after total l.self (g.S.Source.left l.source);
  later : g.S.Source.faults l.initial.source ≤ g.S.Source.faults l.source;
}

abbrev pub decreases-pieces : goal.decreases-pieces
decreases-pieces g l = to_come l.self
