use Rattle.std.proofs.Common.{◌≡◌}
use Rattle.schedule.specs.Machine.{none_of}
use Rattle.schedule.proofs.player.none_held.Given as goal

abbrev pub invariant-loop-caller : goal.invariant-loop-caller
invariant-loop-caller l = l.held.items ≡ none_of l.caller
