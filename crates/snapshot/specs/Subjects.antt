-- Which advisories hit, by what is asked (our own).
use Rattle.std.specs.Prelude.{ℕ, List, Bool, not, ◌&&◌, Option}
use Rattle.osv_prim.specs.declared.package.PackageKey.{PackageKey}
use Rattle.osv_record.specs.Advisories.{Advisory}
use Rattle.evaluate.specs.Hits.{Repo, version_hit, git_hit}

-- the advisory is not withdrawn, and affects the package, in the version where one is asked for
abbrev pub is_package_hit : PackageKey → Option (List ℕ) → Advisory → Bool
is_package_hit asked version advisory = not advisory.withdrawn && version_hit advisory asked version

-- the advisory is not withdrawn, and affects the commit, in an entry of the package where one is asked for
abbrev pub is_commit_hit : List Repo → List ℕ → Option PackageKey → Advisory → Bool
is_commit_hit repos commit asked advisory = not advisory.withdrawn && git_hit advisory repos commit asked
