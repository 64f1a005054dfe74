use Rattle.std.proofs.Common.{◌≡◌, ◌+◌, ◌-◌, ◌≤◌, length, drop}
use Rattle.json.specs.Json.{Items}
use Rattle.json.specs.Find.{InItems}
use Rattle.json_view.specs.Json.{list_of}
use Rattle.json_view.specs.Trees.{shown_items}
use Rattle.json_view.proofs.walk.count_items.Given as goal

abbrev pub invariant-loop-count : goal.invariant-loop-count
invariant-loop-count l =
    ((js : Items) → InItems (drop l.start l.tape) js → (rest : Items) × InItems (drop l.at l.tape) rest × (l.count + length (list_of (shown_items rest)) ≡ length (list_of (shown_items js))))
    × (l.count ≤ l.at)

abbrev pub decreases-loop-count : goal.decreases-loop-count
decreases-loop-count l = length l.tape - l.at
