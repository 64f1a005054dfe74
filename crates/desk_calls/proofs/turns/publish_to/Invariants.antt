use Rattle.std.proofs.Common.{◌≤◌, ◌-◌}
use Rattle.session_model.specs.Answers.{most_turns}
use Rattle.desk_calls.specs.Publishing.{Going}
use Rattle.desk_calls.proofs.turns.publish_to.Given as goal

abbrev pub invariant-loop-took : goal.invariant-loop-took
invariant-loop-took g l = record {
  going : Going (g.D.Desk.caller l.fn.desk) l.goal l.took (g.D.Desk.caller l.desk);
  within : l.took ≤ most_turns;
}

abbrev pub decreases-loop-took : goal.decreases-loop-took
decreases-loop-took g l = most_turns - l.took
