use Rattle.std.proofs.Common.{◌≡◌, ℕ, ◌<◌, ◌||◌, false, length, take, get_or}
use Rattle.osv_prim.specs.Graphs.{is_named, id_at}
use Rattle.git_range.proofs.events.note_named.Given as goal

abbrev pub invariant-loop-event : goal.invariant-loop-event
invariant-loop-event l = (n : ℕ) → n < length l.noted → get_or l.noted n false ≡ (get_or l.fn.noted n false || is_named l.kind (take l.event-index l.events) (id_at l.graph n))
