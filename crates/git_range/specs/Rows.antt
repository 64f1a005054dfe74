-- What is noted of rows, by their numbers (our own).
use Rattle.std.specs.Prelude.{◌≡◌, ℕ, ◌<◌, ◌↔◌, Bool, false, not, ◌&&◌, ◌||◌, ◌==◌, List, length, Option, Some, IsTrue, slice_index_or}
use Rattle.osv_prim.specs.Graphs.{id_at, names, is_named}
use Rattle.osv_prim.specs.declared.oid.CommitRow.{CommitRow}
use Rattle.osv_prim.specs.declared.event.Event.{Event}
use Rattle.osv_prim.specs.declared.event.EventKind.{EventKind}
use Rattle.osv_prim.specs.declared.event.EventKind.TheVariants.{Fixed, LastAffected}

-- the list has a member for each of the first rows, which says whether the row passes the test
pub record AreRows (count : ℕ) (noted : List Bool) (test : ℕ → Bool) : Type 0 where
  pub size : length noted ≡ count
  pub each : (n : ℕ) → n < count → slice_index_or noted n false ≡ test n

-- the one row whose commit the event names
abbrev pub IsNamedRow : List CommitRow → EventKind → Event → Option ℕ → Type 0
IsNamedRow graph kind e row = (n : ℕ) → n < length graph → (row ≡ Some n) ↔ IsTrue (names kind (id_at graph n) e)

-- no walk to the commit of row `end` may pass through row n
abbrev pub is_closed : List CommitRow → List Event → ℕ → ℕ → Bool
is_closed graph events end n = is_named Fixed events (id_at graph n) || (not (n == end) && is_named LastAffected events (id_at graph n))
