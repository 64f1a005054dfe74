-- Which advisories have an entry of a package (OSV schema 1.6, "affected[].package").
use Rattle.std.specs.Prelude.{ℕ, ◌+◌, Bool, false, List, [], ◌∷◌, ◌++◌, slice_get, Option, Some, None, if◌then◌else◌}
use Rattle.std.specs.List.{list_any}
use Rattle.std.specs.Option.{option_map_or}
use Rattle.osv_prim.specs.Packages.{matches}
use Rattle.osv_prim.specs.declared.package.PackageKey.{PackageKey}
use Rattle.osv_record.specs.Advisories.{Advisory}

-- an entry's package is there and matches the asked one
abbrev pub has_package : PackageKey → Option PackageKey → Bool
has_package asked None = false
has_package asked (Some key) = matches key asked

-- some entry's package matches
abbrev pub lists : PackageKey → Advisory → Bool
lists asked r = list_any (λ a. has_package asked a.«package») r.affected

-- there is an advisory with this index that does
abbrev pub lists_at : List Advisory → PackageKey → ℕ → Bool
lists_at advisories asked i = option_map_or (lists asked) (slice_get advisories i) false

-- the first of the advisories has this index
abbrev pub listed_from : ℕ → List Advisory → PackageKey → List ℕ
listed_from i [] asked = []
listed_from i (r ∷ later) asked = (if lists asked r then i ∷ [] else []) ++ listed_from (i + 1) later asked

-- the indexes of the advisories with an entry of the asked package, ascending
abbrev pub listed : List Advisory → PackageKey → List ℕ
listed advisories asked = listed_from 0 advisories asked
