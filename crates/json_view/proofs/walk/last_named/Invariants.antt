use Rattle.std.proofs.Common.{◌≡◌, ◌-◌, length, drop, Option, option_map}
use Rattle.json.specs.Json.{Json, Members}
use Rattle.json.specs.Find.{InMembers, Finds, later_or, get_member}
use Rattle.json_view.proofs.walk.last_named.Given as goal

abbrev pub invariant-loop-key : goal.invariant-loop-key
invariant-loop-key l =
    (ms : Members) → InMembers (drop l.start l.tape) ms → (rest : Members) × (earlier : Option Json) × InMembers (drop l.at l.tape) rest × Finds (option_map (λ i. drop i l.tape) l.found) earlier × (get_member l.name ms ≡ later_or (get_member l.name rest) earlier)

abbrev pub decreases-loop-key : goal.decreases-loop-key
decreases-loop-key l = length l.tape - l.at
