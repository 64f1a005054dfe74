-- What a set knows of the commits of a graph, and for which range and graph it stands (our own).
use Rattle.std.specs.Prelude.{◌≡◌, ℕ, ◌<◌, Bool, true, false, ◌&&◌, Option, Some, None, replicate, List, length, reverse, slice_index_or}
use Rattle.std.specs.List.{list_all}
use Rattle.osv_prim.specs.Graphs.{id_at, is_read, IsBeforeLimit}
use Rattle.osv_prim.specs.declared.oid.CommitRow.{CommitRow}
use Rattle.osv_prim.specs.declared.event.Event.{Event}
use Rattle.git_range.specs.Affected.{reaches, is_within_limits}
use Rattle.git_range.specs.Rows.{AreRows}

-- for each commit, by its number: whether the range reaches it, and whether it lets the commit through
pub record Known : Type 0 where
  pub reached : List Bool
  pub let_through : List Bool

-- a set whose range lets every commit through has no list of them
abbrev pub through_of : ℕ → Option (List Bool) → List Bool
through_of count None = replicate count true
through_of count (Some rows) = rows

-- the commit with this number is in the set
abbrev pub is_member : Known → ℕ → Bool
is_member known k = slice_index_or known.reached k false && slice_index_or known.let_through k false

-- the range reaches the commit with this number
abbrev pub reaches_row : List Event → List CommitRow → ℕ → Bool
reaches_row events graph k = reaches events (reverse graph) (id_at graph k)

-- every event can be read, and the limits let the commit with this number through
abbrev pub lets_row_through : List Event → List CommitRow → ℕ → Bool
lets_row_through events graph k = list_all is_read events && is_within_limits graph events (id_at graph k)

-- the set is that of the range with these events on the graph
pub record StandsFor (events : List Event) (graph : List CommitRow) (known : Known) : Type 0 where
  pub reached : AreRows (length graph) known.reached (reaches_row events graph)
  pub let_through : AreRows (length graph) known.let_through (lets_row_through events graph)

-- the marks are those of the commits that stand before a limit
pub record AreBefore (events : List Event) (graph : List CommitRow) (marks : List Bool) : Type 0 where
  pub size : length marks ≡ length graph
  pub sound : (n : ℕ) → n < length graph → slice_index_or marks n false ≡ true → IsBeforeLimit graph events (id_at graph n)
  pub complete : (n : ℕ) → n < length graph → IsBeforeLimit graph events (id_at graph n) → slice_index_or marks n false ≡ true
