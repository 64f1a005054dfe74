use Rattle.std.proofs.Common.{◌≡◌, ℕ, ◌<◌, length, take, All}
use Rattle.osv_prim.specs.Graphs.{id_at, is_named}
use Rattle.impact_set.specs.Passing.{has_number}
use Rattle.impact_set.proofs.named.found.Given as goal

abbrev pub invariant-loop-event : goal.invariant-loop-event
invariant-loop-event l =
    record {
      named : (n : ℕ) → n < length l.graph → has_number l.numbers.items n ≡ is_named l.kind (take l.event-index l.events) (id_at l.graph n);
      within : All (λ n. n < length l.graph) l.numbers.items;
    }
