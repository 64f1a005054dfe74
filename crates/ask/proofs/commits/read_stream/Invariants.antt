use Rattle.std.proofs.Common.{◌≡◌, ◌≤◌, ℕ, List}
use Rattle.fast_export.specs.Reads.{fed_len}
use Rattle.line_input.specs.Reader.{Holds, KnowsEnd, given_count, to_come}
use Rattle.ask.proofs.Streaming.{HasFed}
use Rattle.ask.proofs.commits.read_stream.Given as goal

abbrev pub invariant-pieces : goal.invariant-pieces
invariant-pieces g l = record {
  limit : l.reader.limit ≡ l.fn.reader.limit;
  fed : (text : List ℕ) → (total : ℕ) → Holds text total l.fn.reader (g.S.Source.left l.fn.source) → HasFed text total l.reader (g.S.Source.left l.source) l.stream;
  count : fed_len l.stream ≤ given_count l.reader;
  ends : KnowsEnd l.fn.reader (g.S.Source.left l.fn.source) → KnowsEnd l.reader (g.S.Source.left l.source);
  later : g.S.Source.faults l.fn.source ≤ g.S.Source.faults l.source;
}

abbrev pub decreases-pieces : goal.decreases-pieces
decreases-pieces g l = to_come l.reader
