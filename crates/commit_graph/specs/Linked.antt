-- Parents by their numbers, beside the rows (our own).
use Rattle.std.specs.Prelude.{◌≡◌, ℕ, ◌+◌, ◌-◌, ◌*◌, ◌^◌, ◌<◌, List, [], length, map, min, sum_by, slice_index_or, EachIndex, All}
use Rattle.osv_prim.specs.Graphs.{id_at, IsLegal}
use Rattle.osv_prim.specs.declared.oid.CommitRow.{CommitRow}

-- each list has the numbers of a row's parents, in order
pub record IsLinked (graph : List CommitRow) (numbers : List (List ℕ)) : Type 0 where
  pub parents : map (map (id_at graph)) numbers ≡ map (λ r. r.parents) graph
  pub earlier : EachIndex numbers (λ n. All (λ p. p < n) (slice_index_or numbers n []))

-- 64 for each row, and 32 for each parent
abbrev pub weight_of : List CommitRow → ℕ
weight_of graph = 64 * length graph + 32 * sum_by (λ r. length r.parents) graph

-- what is kept of a graph: its rows, their parents' numbers, how many rows there are, and what they weigh
pub record IsGraph (graph : List CommitRow) (numbers : List (List ℕ)) (count weight : ℕ) : Type 0 where
  pub legal : IsLegal graph
  pub linked : IsLinked graph numbers
  pub counted : count ≡ length graph
  pub small : length graph < 2 ^ 32
  pub weighed : weight ≡ min (weight_of graph) (2 ^ 64 - 1)
