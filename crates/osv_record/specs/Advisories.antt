-- Advisories (OSV schema 1.6).
use Rattle.std.specs.Prelude.{◌≡◌, ℕ, ◌+◌, Bool, true, false, List, [], ◌∷◌, Option, is_some, ℤ, count_by}
use Rattle.std.specs.List.{list_any}
use Rattle.osv_prim.specs.declared.event.Event.{Event}
use Rattle.osv_prim.specs.declared.event.RangeKind.{RangeKind}
use Rattle.osv_prim.specs.declared.event.RangeKind.TheVariants.{SemVer, Ecosystem, Git}
use Rattle.osv_prim.specs.declared.package.PackageKey.{PackageKey}

-- a member of `affected[].ranges`; a GIT range alone has a repository
pub record Extent : Type 0 where
  pub kind : RangeKind
  pub repo : Option (List ℕ)
  pub events : List Event

-- a member of `affected`
pub record Entry : Type 0 where
  pub «package» : Option PackageKey
  pub ranges : List Extent
  pub versions : List (List ℕ)

-- an advisory, with the bytes that it was read from; `modified` is in nanoseconds since 1970
pub record Advisory : Type 0 where
  pub id : List ℕ
  pub modified : ℤ
  pub modified_text : List ℕ
  pub withdrawn : Bool
  pub affected : List Entry
  pub text : List ℕ

abbrev pub is_git : RangeKind → Bool
is_git SemVer = false
is_git Ecosystem = false
is_git Git = true

-- a range has a repository exactly where it is a GIT range
abbrev pub has_its_repo : RangeKind → Option (List ℕ) → Type 0
has_its_repo kind repo = is_some repo ≡ is_git kind

-- how many GIT ranges there are
abbrev pub git_ranges_of : List Extent → ℕ
git_ranges_of ranges = count_by (λ (r : Extent). is_git r.kind) ranges

abbrev pub git_ranges : List Entry → ℕ
git_ranges [] = 0
git_ranges (a ∷ rest) = git_ranges_of a.ranges + git_ranges rest

-- some range has a repository
abbrev pub has_repo : List Extent → Bool
has_repo ranges = list_any (λ (r : Extent). is_some r.repo) ranges

-- some range of these entries has
abbrev pub has_repos : List Entry → Bool
has_repos entries = list_any (λ (a : Entry). has_repo a.ranges) entries
