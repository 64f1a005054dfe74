use Rattle.std.proofs.Common.{◌≡◌, ◌+◌, ◌<◌, ◌≤◌, ℕ, length, get_or}
use Rattle.impact_set.specs.Passing.{AreHeld, IsOnward}
use Rattle.impact_set.proofs.reached.pass.Given as goal

abbrev pub invariant-loop-stop : goal.invariant-loop-stop
invariant-loop-stop g l =
    record {
      within : l.at ≤ length l.graph;
      passed : (j d : ℕ) → j < l.stop-index → get_or l.stops j d < l.at;
      marks : IsOnward l.events l.graph l.at l.marks;
      held : AreHeld l.events l.graph l.at l.held.items;
      steps : l.steps.graph + l.first ≤ l.fn.steps.graph + l.at;
      records : l.steps.record_count ≡ l.fn.steps.record_count;
    }
