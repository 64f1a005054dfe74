-- What a pass over the rows of a graph knows, from the first row on (our own).
use Rattle.std.specs.Prelude.{◌≡◌, ℕ, ◌<◌, ◌≤◌, Bool, false, not, ◌&&◌, ◌==◌, List, length, slice_index_or, All}
use Rattle.std.specs.List.{list_any}
use Rattle.std.specs.List.Sorted.{IsNonDecreasing}
use Rattle.osv_prim.specs.Graphs.{id_at, is_named}
use Rattle.osv_prim.specs.declared.event.Event.{Event}
use Rattle.osv_prim.specs.declared.event.EventKind.{EventKind}
use Rattle.osv_prim.specs.declared.event.EventKind.TheVariants.{Introduced, Fixed, LastAffected}
use Rattle.osv_prim.specs.declared.oid.CommitRow.{CommitRow}
use Rattle.impact_set.specs.declared.named.Named.{Named}
use Rattle.impact_set.specs.Standing.{reaches_row}

-- the range reaches the commit of this row, and goes on from it
abbrev pub goes_on : List Event → List CommitRow → ℕ → Bool
goes_on events graph k = reaches_row events graph k && not (is_named LastAffected events (id_at graph k))

-- the range reaches the commit of this row, and ends there
abbrev pub ends_at : List Event → List CommitRow → ℕ → Bool
ends_at events graph k = reaches_row events graph k && is_named LastAffected events (id_at graph k)

-- of the rows before `at` those are marked from which the range goes on, and no later row is
pub record IsOnward (events : List Event) (graph : List CommitRow) (at : ℕ) (marks : List Bool) : Type 0 where
  pub size : length marks ≡ length graph
  pub known : (k : ℕ) → k < at → slice_index_or marks k false ≡ goes_on events graph k
  pub free : (k : ℕ) → at ≤ k → slice_index_or marks k false ≡ false

-- of the rows before `at` those are listed at which the range ends, and no later row is
pub record AreHeld (events : List Event) (graph : List CommitRow) (at : ℕ) (held : List ℕ) : Type 0 where
  pub known : (k : ℕ) → k < at → list_any (λ n. n == k) held ≡ ends_at events graph k
  pub free : (k : ℕ) → at ≤ k → list_any (λ n. n == k) held ≡ false

-- ---- the rows that events name

-- some member of the list is this row's number
abbrev pub has_number : List ℕ → ℕ → Bool
has_number numbers n = list_any (λ x. x == n) numbers

-- the numbers are those of the rows that an event of the kind names, ascending
pub record AreNumbers (graph : List CommitRow) (kind : EventKind) (events : List Event) (numbers : List ℕ) : Type 0 where
  pub named : (n : ℕ) → n < length graph → has_number numbers n ≡ is_named kind events (id_at graph n)
  pub within : All (λ n. n < length graph) numbers
  pub ascending : IsNonDecreasing numbers

-- no introduced, fixed or last affected event names the commit of this row
pub record IsPlain (events : List Event) (graph : List CommitRow) (n : ℕ) : Type 0 where
  pub introduced : is_named Introduced events (id_at graph n) ≡ false
  pub fixed : is_named Fixed events (id_at graph n) ≡ false
  pub last_affected : is_named LastAffected events (id_at graph n) ≡ false

-- the rows that each kind of event names, and all of them, ascending
pub record AreTheNamed (graph : List CommitRow) (events : List Event) (named : Named) : Type 0 where
  pub introduced : AreNumbers graph Introduced events named.introduced
  pub fixed : AreNumbers graph Fixed events named.fixed
  pub last_affected : AreNumbers graph LastAffected events named.last_affected
  pub ascending : IsNonDecreasing named.all
  pub within : All (λ n. n < length graph) named.all
  pub plain : (n : ℕ) → n < length graph → has_number named.all n ≡ false → IsPlain events graph n
