-- The numbers of the repositories of advisories' GIT ranges (our own).
use Rattle.std.specs.Prelude.{◌≡◌, ◌<◌, ℕ, false, List, [], Some, All, length, slice_get, option_to_list, if◌then◌else◌}
use Rattle.std.specs.List.{AllZip, flat_map}
use Rattle.osv_record.specs.Advisories.{Advisory, Entry, Extent, has_its_repo}
use Rattle.package_index.specs.Numbers.{number_of}

-- the key of a range's repository, as GIT ranges alone have one
abbrev pub range_keys : Extent → List (List ℕ)
range_keys x = option_to_list x.repo

-- those of an entry's ranges
abbrev pub entry_keys : Entry → List (List ℕ)
entry_keys a = flat_map range_keys a.ranges

-- those of an advisory's GIT ranges, by entry and range, and none where it is withdrawn
abbrev pub git_keys : Advisory → List (List ℕ)
git_keys r = if r.withdrawn then [] else flat_map entry_keys r.affected

abbrev pub HasRepo : Extent → Type 0
HasRepo x = has_its_repo x.kind x.repo

-- each range of the entry has a repository exactly where it is a GIT range
abbrev pub HasRepos : Entry → Type 0
HasRepos a = All HasRepo a.ranges

-- the number is the place of the key
abbrev pub IsNumberOf : List (List ℕ) → List ℕ → ℕ → Type 0
IsNumberOf keys key n = number_of keys key ≡ Some n

abbrev pub AreNumbers : List (List ℕ) → List (List ℕ) → List ℕ → Type 0
AreNumbers keys own numbers = AllZip (IsNumberOf keys) own numbers

-- the numbers are those of the repositories of the advisory's GIT ranges
pub record AreNumbersOf (keys : List (List ℕ)) (r : Advisory) (own : List ℕ) : Type 0 where
  pub numbers : AreNumbers keys (git_keys r) own
  pub repos : r.withdrawn ≡ false → All HasRepos r.affected

-- what has a number keeps it
abbrev pub KeepNumbers : List (List ℕ) → List (List ℕ) → Type 0
KeepNumbers old new = (key : List ℕ) (n : ℕ) → number_of old key ≡ Some n → number_of new key ≡ Some n

-- an advisory of the old list that is at a place of the new one is the same
abbrev pub AreSame : List ℕ → List Advisory → List Advisory → Type 0
AreSame moved old new = (i j : ℕ) → slice_get moved i ≡ Some j → j < length new → slice_get old i ≡ slice_get new j
