use Rattle.std.proofs.Common.{◌≤◌}
use Rattle.std.specs.Io.KnownBytes.{prepend_known}
use Rattle.http_wire.specs.Rests.{ReadSoFar, work_of}
use Rattle.http_wire.proofs.body.read_body.Given as goal

abbrev pub invariant-parts : goal.invariant-parts
invariant-parts g l = record {
  read : ReadSoFar l.fn.rest (prepend_known l.initial.held (g.S.Source.left l.initial.source)) l.body.items l.rest (prepend_known l.held (g.S.Source.left l.source));
  later : g.S.Source.faults l.initial.source ≤ g.S.Source.faults l.source;
}

abbrev pub decreases-parts : goal.decreases-parts
decreases-parts g l = work_of l.rest
