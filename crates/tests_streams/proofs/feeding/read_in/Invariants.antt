use Rattle.std.proofs.Common.{◌≡◌, ◌+◌, ◌≤◌, ◌++◌, List, ℕ, length}
use Rattle.fast_export.specs.Reads.{Reads, fed_len}
use Rattle.tests_streams.proofs.feeding.read_in.Given as goal

abbrev pub invariant-loop-rest : goal.invariant-loop-rest
invariant-loop-rest l = record {
  room : fed_len l.reader + length l.rest ≤ length l.text;
  fed : (front : List ℕ) × (front ++ l.rest ≡ l.text) × Reads l.most front l.reader;
}

abbrev pub decreases-loop-rest : goal.decreases-loop-rest
decreases-loop-rest l = length l.rest
