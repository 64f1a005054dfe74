use Rattle.std.proofs.Common.{◌≤◌, ◌<◌, ◌+◌, List, ℕ, vec_capacity}
use Rattle.std.specs.Prelude.{◌^◌}
use Rattle.std.specs.Io.KnownBytes.{prepend_known}
use Rattle.fast_export.specs.Reads.{Reads, fed_len}
use Rattle.http_wire.specs.Rests.{ReadSoFar, work_of}
use Rattle.stream_body.proofs.read.read_stream.Given as goal

abbrev pub invariant-parts : goal.invariant-parts
invariant-parts g l = record {
  read : (bytes : List ℕ) × ReadSoFar l.fn.rest (prepend_known l.initial.held (g.S.Source.left l.initial.source)) bytes l.rest (prepend_known l.held (g.S.Source.left l.source)) × Reads l.most bytes l.reader;
  count : fed_len l.reader + work_of l.rest < 2 ^ 64;
  room : 65536 ≤ vec_capacity l.part;
  later : g.S.Source.faults l.initial.source ≤ g.S.Source.faults l.source;
}

abbrev pub decreases-parts : goal.decreases-parts
decreases-parts g l = work_of l.rest
