use Rattle.std.proofs.Common.{◌≡◌, take}
use Rattle.commit_graph.specs.Segments.{seen}
use Rattle.commit_graph.proofs.segments.shared.Given as goal

abbrev pub invariant-loop-segment : goal.invariant-loop-segment
invariant-loop-segment l = seen l.own.items ≡ seen (take l.segment-index l.segments)
