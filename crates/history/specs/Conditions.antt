-- What a caller has to know of a history. Each of these facts lasts when further entries come (our own).
use Rattle.std.specs.Prelude.{ℕ, ◌-◌, ◌≤◌, List, length}
use mathlib.Core.List.{IsPrefix}
use Rattle.osv_prim.specs.declared.oid.CommitRow.{CommitRow}
use Rattle.history.specs.declared.past.Past.{Past}
use Rattle.history.specs.Entries.{History, imports, newest, upto_of}
use Rattle.history.specs.Prefixes.{grows, graph_at}

-- the repository has at least so many Grows, and the rows begin with its graph after them
pub record IsOfVersion (key : List ℕ) (version : ℕ) (rows : List CommitRow) (h : List Past) : Type 0 where
  pub there : version ≤ grows h key
  pub begins : IsPrefix (graph_at version h key) rows

-- a build makes the snapshot after one that was published, of imports that came, those of that snapshot among them
pub record IsWithin (build upto : ℕ) (h : History) : Type 0 where
  pub positive : 1 ≤ build
  pub published : build - 1 ≤ newest h
  pub came : upto ≤ length (imports h)
  pub reaches : upto_of h (build - 1) ≤ upto
