-- What is kept of the sets of GIT ranges (our own).
use Rattle.std.specs.Prelude.{◌≡◌, ℕ, ◌+◌, ◌≤◌, ◌==◌, Bool, false, ◌&&◌, nat_le, List, [], ◌∷◌, Option, Some, None, map, if◌then◌else◌}
use Rattle.std.specs.List.{AllZip, list_any, AllByRecursion}
use Rattle.std.specs.Option.{option_map_or}
use Rattle.std.specs.Arc.{arc_value}
use Rattle.std.specs.declared.sync.Arc.{Arc}
use Rattle.std.specs.Ordering.{nat_cmp}
use Rattle.osv_prim.specs.Graphs.{number_of}
use Rattle.multimap.specs.Entries.{values_of}
use Rattle.history.specs.declared.past.Past.{Past}
use Rattle.history.specs.Prefixes.{records, graph}
use Rattle.impact_set.specs.Standing.{Known}
use Rattle.package_index.specs.Numbers as of_keys
use Rattle.set_hits.specs.Places.{has}
use Rattle.repo_index.specs.Listing.{hits_on, passes_from}
use Rattle.repo_index.specs.Numbers.{AreNumbersOf}

-- the set of a GIT range, behind the index of its advisory
abbrev pub Kept : Type 0
Kept = ℕ × Known

-- the same behind the number of its repository
abbrev pub Noted : Type 0
Noted = ℕ × Kept

-- the keys of repositories, which are numbered by their places, the numbers of those of each advisory's GIT ranges, and what is noted under them
pub record Index : Type 0 where
  pub keys : List (List ℕ)
  pub own : List (List ℕ)
  pub entries : List Noted

abbrev pub kept_seen : {Z : Type 0} → ℕ × Arc Known Z → Kept
kept_seen kept = (kept.0, arc_value kept.1)

abbrev pub noted_seen : {Z : Type 0} → ℕ × (ℕ × Arc Known Z) → Noted
noted_seen noted = (noted.0, kept_seen noted.1)

abbrev pub all_seen : {Z : Type 0} → List (ℕ × (ℕ × Arc Known Z)) → List Noted
all_seen entries = map noted_seen entries

-- numbers and sets side by side, of the advisory with this index
abbrev pub beside : ℕ → List ℕ → List Known → List Noted
beside index [] sets = []
beside index (n ∷ numbers) [] = []
beside index (n ∷ numbers) (known ∷ sets) = (n, (index, known)) ∷ beside index numbers sets

-- it is of the advisory with this index, and its set has the commit with this number
abbrev pub has_at : ℕ → ℕ → Kept → Bool
has_at number i kept = (kept.0 == i) && has kept.1 number

-- the number is this one, where there is one
abbrev pub is_under : Option ℕ → ℕ → Bool
is_under place n = option_map_or (λ m. n == m) place false

-- some set of the advisory with this index has the commit, among those noted under the repository
abbrev pub is_noted : List (List ℕ) → List Noted → List ℕ → ℕ → ℕ → Bool
is_noted keys entries repo number i = list_any (λ e. is_under (of_keys.number_of keys repo) e.0 && has_at number i e.1) entries

-- what is noted under a number
abbrev pub under : List Noted → Option ℕ → List Kept
under entries (Some n) = values_of nat_cmp entries n
under entries None = []

-- what an index has under a repository
abbrev pub found : Index → List ℕ → List Kept
found index repo = under index.entries (of_keys.number_of index.keys repo)

-- the indexes of advisories ascend, from this one on
abbrev pub AscendFrom : ℕ → List Kept → Type 0
AscendFrom low [] = Unit {0}
AscendFrom low (kept ∷ later) = (low ≤ kept.0) × AscendFrom kept.0 later

-- they do, and none is above this one
pub record AscendTo (entries : List Noted) (high : ℕ) : Type 0 where
  pub up : AscendFrom 0 (map (λ e. e.1) entries)
  pub within : AllByRecursion (λ e. e.1.0 ≤ high) entries

-- from this index on the indexes of advisories in turn, each once, of which a set has the commit
abbrev pub picked : ℕ → ℕ → List Kept → List ℕ
picked number next [] = []
picked number next (kept ∷ later) = if nat_le next kept.0 && has kept.1 number then kept.0 ∷ picked number (kept.0 + 1) later else picked number next later

-- an index has under each repository the sets of the GIT ranges on it, so that they tell which advisories affect a commit there, and no others
pub record IsIndexOf (index : Index) (p : List Past) : Type 0 where
  pub ascend : (repo : List ℕ) → AscendFrom 0 (found index repo)
  pub hits : (repo commit : List ℕ) (number i : ℕ) → number_of (graph p repo) commit ≡ Some number
      → list_any (has_at number i) (found index repo) ≡ passes_from (hits_on p repo commit) 0 (records p) i
  -- the numbers of each advisory's repositories
  pub own : AllZip (AreNumbersOf index.keys) (records p) index.own
