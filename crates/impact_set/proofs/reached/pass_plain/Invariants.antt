use Rattle.std.proofs.Common.{◌≡◌, ◌+◌}
use Rattle.impact_set.specs.Passing.{IsOnward}
use Rattle.impact_set.proofs.reached.pass_plain.Given as goal

abbrev pub invariant-loop-number : goal.invariant-loop-number
invariant-loop-number g l =
    record {
      marks : IsOnward l.events l.graph l.number l.marks;
      steps : l.steps.graph + l.at ≡ l.fn.steps.graph + l.number;
      records : l.steps.record_count ≡ l.fn.steps.record_count;
    }
