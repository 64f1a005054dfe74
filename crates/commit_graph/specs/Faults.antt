-- What is wrong with rows that are joined to a graph, and how it is printed (our own).
use Rattle.std.specs.Prelude.{◌≡◌, ℕ, ◌<◌, Bool, not, if◌then◌else◌, nat_le, List, length, take, Option, Some, None, codes, slice_get}
use Rattle.std.specs.List.{list_any, list_all}
use Rattle.std.specs.Option.{option_map_or}
use Rattle.std.specs.Str.{bytes_eq}
use Rattle.std.specs.Cmp.Lexicographic.{pointwise}
use Rattle.osv_prim.specs.Graphs.{has, number_of, parents_at, joined}
use Rattle.osv_prim.specs.declared.oid.CommitRow.{CommitRow}
use Rattle.commit_graph.specs.declared.fault.GraphFault.{GraphFault}
use Rattle.commit_graph.specs.declared.fault.GraphFault.TheVariants as faults

abbrev pub code_of : GraphFault → ℕ
code_of (faults.UnknownParent row) = 1
code_of (faults.ParentsDiffer row) = 2
code_of (faults.SelfParent row) = 3
code_of (faults.TooMany row) = 4
code_of faults.Memory = 5

abbrev pub name_of : GraphFault → List ℕ
name_of (faults.UnknownParent row) = codes "UnknownParent"
name_of (faults.ParentsDiffer row) = codes "ParentsDiffer"
name_of (faults.SelfParent row) = codes "SelfParent"
name_of (faults.TooMany row) = codes "TooMany"
name_of faults.Memory = codes "Memory"

abbrev pub row_of : GraphFault → ℕ
row_of (faults.UnknownParent row) = row
row_of (faults.ParentsDiffer row) = row
row_of (faults.SelfParent row) = row
row_of (faults.TooMany row) = row
row_of faults.Memory = 0

-- the same ids in the same order
abbrev pub same_ids : List (List ℕ) → List (List ℕ) → Bool
same_ids = pointwise bytes_eq

-- a row whose commit is there already, with these parents
abbrev pub fault_of_known : ℕ → CommitRow → List (List ℕ) → Option GraphFault
fault_of_known index r there = if same_ids there r.parents then None else Some (faults.ParentsDiffer index)

abbrev pub fault_of_new : List CommitRow → ℕ → ℕ → CommitRow → Option GraphFault
fault_of_new graph most index r =
    if list_any (bytes_eq r.oid) r.parents then Some (faults.SelfParent index)
    else (if not (list_all (has graph) r.parents) then Some (faults.UnknownParent index)
    else (if nat_le most (length graph) then Some (faults.TooMany index) else None))

-- the fault of a row that stands at this index, where a graph is there already
abbrev pub fault_of : List CommitRow → ℕ → ℕ → CommitRow → Option GraphFault
fault_of graph most index r =
    option_map_or (λ n. fault_of_known index r (parents_at graph n)) (number_of graph r.oid) (fault_of_new graph most index r)

-- the fault of the row at an index, where the graph and the rows before it are there
abbrev pub fault_at : List CommitRow → ℕ → List CommitRow → ℕ → Option GraphFault
fault_at graph most rows index = option_map_or (λ r. fault_of (joined graph (take index rows)) most index r) (slice_get rows index) None

abbrev pub IsSound : List CommitRow → ℕ → List CommitRow → Type 0
IsSound graph most rows = (index : ℕ) → index < length rows → fault_at graph most rows index ≡ None

-- the row that it names has this fault, and no row before it has one
pub record IsFirstFault (graph : List CommitRow) (most : ℕ) (rows : List CommitRow) (fault : GraphFault) : Type 0 where
  pub there : row_of fault < length rows
  pub found : fault_at graph most rows (row_of fault) ≡ Some fault
  pub first : (index : ℕ) → index < row_of fault → fault_at graph most rows index ≡ None
