use Rattle.std.proofs.Common.{◌≡◌, length}
use Rattle.fast_export.specs.Commits.{facts_of}
use Rattle.fast_export.specs.Following.{offered}
use Rattle.fast_export.proofs.commands.Commands.line.Given as goal

abbrev pub invariant-loop-part : goal.invariant-loop-part
invariant-loop-part l = record {
  facts : facts_of l.self.commits ≡ facts_of l.initial.self.commits;
  most : l.self.most ≡ l.initial.self.most;
  so_far : offered l.initial.self.most l.parts (facts_of l.initial.self.commits) l.at l.line ≡ offered l.initial.self.most l.initial.parts (facts_of l.initial.self.commits) l.at l.line;
}

abbrev pub decreases-loop-part : goal.decreases-loop-part
decreases-loop-part l = length l.parts
