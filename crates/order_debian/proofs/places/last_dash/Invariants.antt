use Rattle.std.proofs.Common.{◌≡◌, ◌≤◌, length, take}
use Rattle.order_debian.specs.Reading.{last_place}
use Rattle.order_debian.proofs.places.last_dash.Given as goal

abbrev pub invariant-loop-end : goal.invariant-loop-end
invariant-loop-end l = record {
  within : l.end ≤ length l.text;
  none_behind : last_place 45 (take l.end l.text) ≡ last_place 45 l.text;
}

abbrev pub decreases-loop-end : goal.decreases-loop-end
decreases-loop-end l = l.end
