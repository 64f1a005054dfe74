-- Where the commits of repositories are (our own).
use Rattle.std.specs.Prelude.{◌≡◌, ℕ, ◌+◌, List, [], ◌∷◌, ◌++◌, length, map, filter}
use Rattle.std.specs.List.{range_with_len}
use Rattle.std.specs.Ordering.{nat_cmp}
use Rattle.std.specs.Cmp.Lexicographic.{slice_cmp}
use Rattle.std.specs.Str.{bytes_eq}
use Rattle.osv_prim.specs.Graphs.{id_at}
use Rattle.osv_prim.specs.declared.oid.CommitRow.{CommitRow}
use Rattle.multimap.specs.Entries.{values_of}

-- the numbers of the rows of a graph with this commit, of which a legal graph has one at most
abbrev pub rows_of : List CommitRow → List ℕ → List ℕ
rows_of graph c = filter (λ n. bytes_eq (id_at graph n) c) (range_with_len 0 (length graph))

-- the same beside the number of the repository
abbrev pub place_in : ℕ → List CommitRow → List ℕ → List (ℕ × ℕ)
place_in repo graph c = map (λ n. (repo, n)) (rows_of graph c)

-- the first of the graphs is that of the repository with this number
abbrev pub places_from : ℕ → List (List CommitRow) → List ℕ → List (ℕ × ℕ)
places_from repo [] c = []
places_from repo (graph ∷ graphs) c = place_in repo graph c ++ places_from (repo + 1) graphs c

-- each repository and row with the commit, by their numbers, ascending
abbrev pub places : List (List CommitRow) → List ℕ → List (ℕ × ℕ)
places graphs c = places_from 0 graphs c

-- what an index has under a commit
abbrev pub found : List (List ℕ × (ℕ × ℕ)) → List ℕ → List (ℕ × ℕ)
found index c = values_of (slice_cmp nat_cmp) index c

-- an index has the places of each commit, and no others
abbrev pub IsIndexOf : List (List CommitRow) → List (List ℕ × (ℕ × ℕ)) → Type 0
IsIndexOf graphs index = (c : List ℕ) → found index c ≡ places graphs c
