-- Rows joined to a graph, one after another, or the fault of the first faulty one (our own).
use Rattle.std.specs.Prelude.{ℕ, ◌+◌, List, [], ◌∷◌, Result, Ok, Err}
use Rattle.std.specs.Option.{option_map_or}
use Rattle.osv_prim.specs.Graphs.{with_row}
use Rattle.osv_prim.specs.declared.oid.CommitRow.{CommitRow}
use Rattle.commit_graph.specs.declared.fault.GraphFault.{GraphFault}
use Rattle.commit_graph.specs.Faults.{fault_of}

-- the first of the rows has this index
abbrev pub extended_from : ℕ → List CommitRow → ℕ → List CommitRow → Result (List CommitRow) GraphFault
extended_from index graph most [] = Ok graph
extended_from index graph most (r ∷ rows) = option_map_or Err (fault_of graph most index r) (extended_from (index + 1) (with_row graph r) most rows)

unfoldable pub extended : List CommitRow → ℕ → List CommitRow → Result (List CommitRow) GraphFault
extended graph most rows = extended_from 0 graph most rows
