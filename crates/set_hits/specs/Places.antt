-- The repositories that have a commit (our own).
use Rattle.std.specs.Prelude.{ℕ, ◌<◌, Bool, false, ◌&&◌, nat_lt, List, [], ◌∷◌, ◌++◌, length, Option, Some, None, if◌then◌else◌}
use Rattle.std.specs.Option.{option_map_or}
use Rattle.std.specs.Str.{bytes_eq}
use Rattle.osv_prim.specs.Graphs.{number_of}
use Rattle.evaluate.specs.Hits.{Repo}
use Rattle.impact_set.specs.Standing.{Known, is_member}

-- the key of a repository, and the commit's number in its graph
abbrev pub Place : Type 0
Place = List ℕ × ℕ

-- the places and one more, where the repository has the commit
abbrev pub with_place : List Place → List ℕ → Option ℕ → List Place
with_place places key None = places
with_place places key (Some n) = places ++ (key, n) ∷ []

-- one for each repository that has the commit, in their order
abbrev pub places_of : List Repo → List ℕ → List Place
places_of [] commit = []
places_of (repo ∷ repos) commit = with_place [] repo.0 (number_of repo.1 commit) ++ places_of repos commit

-- the commit's number in the graph of a repository
abbrev pub number_in : List Place → List ℕ → Option ℕ
number_in [] key = None
number_in (place ∷ places) key = if bytes_eq place.0 key then Some place.1 else number_in places key

-- the set has the commit of this number, which it covers
abbrev pub has : Known → ℕ → Bool
has known n = nat_lt n (length known.reached) && is_member known n

-- the set has the commit, in the graph of the repository
abbrev pub set_hit : Known → List Place → List ℕ → Bool
set_hit known places key = option_map_or (has known) (number_in places key) false
