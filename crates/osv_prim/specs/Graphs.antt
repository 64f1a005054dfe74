-- Graphs of commits, and which of their commits a GIT range affects (git's documentation, "gitglossary": commit,
-- parent; OSV schema 1.6, "affected[].ranges[].events" and "Evaluation").
use Rattle.std.specs.Prelude.{◌≡◌, ◌≢◌, ℕ, ◌≤◌, ◌⊎◌, Bool, true, false, ◌&&◌, ◌||◌, if◌then◌else◌, IsTrue, List, [], ◌∷◌, ◌++◌, length, map, fold, take, position, slice_index_or, Option, is_some, All, AllPairs, EachIndex, Any, Contains, codes}
use Rattle.std.specs.List.{list_any, list_all}
use Rattle.std.specs.Option.{option_map_or}
use Rattle.std.specs.Str.{bytes_eq}
use Rattle.osv_prim.specs.Oids.{oid_of}
use Rattle.osv_prim.specs.declared.oid.CommitRow.{CommitRow}
use Rattle.osv_prim.specs.declared.event.Event.{Event}
use Rattle.osv_prim.specs.declared.event.EventKind.{EventKind}
use Rattle.osv_prim.specs.declared.event.EventKind.TheVariants.{Introduced, Fixed, LastAffected, Limit}
pub use Rattle.osv_prim.specs.Events.{is_kind, means_all}

-- ---- graphs: lists of rows, each a commit's id and the ids of its parents

abbrev pub ids : List CommitRow → List (List ℕ)
ids graph = map (λ r. r.oid) graph

-- some row has this id
abbrev pub has : List CommitRow → List ℕ → Bool
has graph c = list_any (bytes_eq c) (ids graph)

-- the number, from 0, of the row with this id
abbrev pub number_of : List CommitRow → List ℕ → Option ℕ
number_of graph c = position (bytes_eq c) (ids graph)

-- the id, and the parents, of the row with this number
abbrev pub id_at : List CommitRow → ℕ → List ℕ
id_at graph n = slice_index_or (ids graph) n []

abbrev pub parents_at : List CommitRow → ℕ → List (List ℕ)
parents_at graph n = slice_index_or (map (λ r. r.parents) graph) n []

-- ids differ, and each parent is the id of an earlier row
pub record IsLegal (graph : List CommitRow) : Type 0 where
  pub differ : AllPairs (λ a b. a ≢ b) (ids graph)
  pub earlier : EachIndex graph (λ n. All (Contains (take n (ids graph))) (parents_at graph n))

-- the graph and this row, unless its id is there already
abbrev pub with_row : List CommitRow → CommitRow → List CommitRow
with_row graph r = if has graph r.oid then graph else graph ++ r ∷ []

-- the graph, and then each row whose id isn't there yet
abbrev pub joined : List CommitRow → List CommitRow → List CommitRow
joined graph rows = fold with_row graph rows

-- ---- walks: lists of at least one commit of the graph, each a parent of the next

abbrev pub IsParent : List CommitRow → List ℕ → List ℕ → Type 0
IsParent graph p c = Any (λ r. (r.oid ≡ c) × Contains r.parents p) graph

abbrev pub IsWalk : List CommitRow → List (List ℕ) → Type 0
IsWalk graph [] = ⊥
IsWalk graph (a ∷ []) = Contains (ids graph) a
IsWalk graph (a ∷ b ∷ rest) = IsParent graph a b × IsWalk graph (b ∷ rest)

abbrev pub first_of : List (List ℕ) → List ℕ
first_of [] = []
first_of (a ∷ rest) = a

abbrev pub last_of : List (List ℕ) → List ℕ
last_of [] = []
last_of (a ∷ []) = a
last_of (a ∷ b ∷ rest) = last_of (b ∷ rest)

-- all but the last
abbrev pub before_last : List (List ℕ) → List (List ℕ)
before_last [] = []
before_last (a ∷ []) = []
before_last (a ∷ b ∷ rest) = a ∷ before_last (b ∷ rest)

-- a proper ancestor: a walk of at least two commits leads from a to c
pub record IsProperAncestor (graph : List CommitRow) (a c : List ℕ) : Type 0 where
  pub walk : List (List ℕ)
  pub is_walk : IsWalk graph walk
  pub proper : 2 ≤ length walk
  pub begins : first_of walk ≡ a
  pub ends : last_of walk ≡ c

-- a commit without parents
abbrev pub IsRoot : List CommitRow → List ℕ → Type 0
IsRoot graph c = Any (λ r. (r.oid ≡ c) × (r.parents ≡ [])) graph

-- ---- the events of a GIT range

-- a value can be read: every commit is meant, or it is forty hex digits
abbrev pub is_read : Event → Bool
is_read e = means_all e || is_some (oid_of e.value)

-- the event is of the kind, and names the commit
abbrev pub names : EventKind → List ℕ → Event → Bool
names kind c e = is_kind kind e.kind && option_map_or (bytes_eq c) (oid_of e.value) false

-- some event of the kind names the commit
abbrev pub is_named : EventKind → List Event → List ℕ → Bool
is_named kind events c = list_any (names kind c) events

-- some event of the kind means every commit
abbrev pub names_all : EventKind → List Event → Bool
names_all kind events = list_any (λ e. is_kind kind e.kind && means_all e) events

abbrev pub has_limit : List Event → Bool
has_limit events = list_any (λ e. is_kind Limit e.kind) events

-- ---- affected commits

-- a proper ancestor of a commit that a limit names
abbrev pub IsBeforeLimit : List CommitRow → List Event → List ℕ → Type 0
IsBeforeLimit graph events c = (limit : List ℕ) × IsTrue (is_named Limit events limit) × IsProperAncestor graph c limit

-- no limit is given, or one is `*`, or the commit stands before one
abbrev pub IsWithinLimits : List CommitRow → List Event → List ℕ → Type 0
IsWithinLimits graph events c = (has_limit events ≡ false) ⊎ IsTrue (names_all Limit events) ⊎ IsBeforeLimit graph events c

-- a range begins at a commit that an introduced event names, and at each root where some introduced is `0`
abbrev pub IsStart : List CommitRow → List Event → List ℕ → Type 0
IsStart graph events c = IsTrue (is_named Introduced events c) ⊎ (IsTrue (names_all Introduced events) × IsRoot graph c)

-- a walk to the commit from where the range begins, which meets no fixed commit, and a last affected one at most at its end
pub record IsReached (graph : List CommitRow) (events : List Event) (c : List ℕ) : Type 0 where
  pub walk : List (List ℕ)
  pub is_walk : IsWalk graph walk
  pub begins : IsStart graph events (first_of walk)
  pub ends : last_of walk ≡ c
  pub unfixed : All (λ x. is_named Fixed events x ≡ false) walk
  pub unended : All (λ x. is_named LastAffected events x ≡ false) (before_last walk)

pub record IsAffected (graph : List CommitRow) (events : List Event) (c : List ℕ) : Type 0 where
  pub read : IsTrue (list_all is_read events)
  pub within_limits : IsWithinLimits graph events c
  pub reached : IsReached graph events c
