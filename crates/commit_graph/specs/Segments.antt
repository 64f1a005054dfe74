-- A graph's rows in segments, each of rows that stand one after another (our own).
use Rattle.std.specs.Prelude.{◌≡◌, ℕ, ◌++◌, List, length, map}
use Rattle.std.specs.List.{flat_map}
use Rattle.std.specs.Arc.{arc_value}
use Rattle.std.specs.declared.sync.Arc.{Arc}
use Rattle.osv_prim.specs.Graphs.{ids}
use Rattle.osv_prim.specs.declared.oid.CommitRow.{CommitRow}

-- rows one after another, and beside each the numbers that its parents have in the graph
pub record Part : Type 0 where
  pub rows : List CommitRow
  pub numbers : List (List ℕ)

-- what is kept of a segment: its rows, their ids, and as many lists of numbers
pub record IsSegment (rows : List CommitRow) (oids : List (List ℕ)) (numbers : List (List ℕ)) : Type 0 where
  pub ids : oids ≡ ids rows
  pub numbered : length numbers ≡ length rows

-- the values that are shared
abbrev pub seen : {Z : Type 0} → List (Arc Part Z) → List Part
seen segments = map (λ a. arc_value a) segments

-- the rows, and their parents' numbers, of segments and of rows that are in none yet
abbrev pub rows_of : List Part → Part → List CommitRow
rows_of parts fresh = flat_map (λ p. p.rows) parts ++ fresh.rows

abbrev pub numbers_of : List Part → Part → List (List ℕ)
numbers_of parts fresh = flat_map (λ p. p.numbers) parts ++ fresh.numbers
