use Rattle.std.proofs.Common.{◌<◌, ◌+◌, ◌^◌, length}
use Rattle.fast_export.specs.Reading.{come, Leads}
use Rattle.fast_export.proofs.reading.Reading.feed.Given as goal

abbrev pub invariant-loop-rest : goal.invariant-loop-rest
invariant-loop-rest l = record {
  leads : Leads l.initial.self l.initial.rest l.self l.rest;
  room : come l.self + length l.rest < 2 ^ 64;
}

abbrev pub decreases-loop-rest : goal.decreases-loop-rest
decreases-loop-rest l = length l.rest
