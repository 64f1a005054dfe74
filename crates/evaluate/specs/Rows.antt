-- The rows of the graphs that are looked at for what is asked (our own).
use Rattle.std.specs.Prelude.{ℕ, List, length, if◌then◌else◌, Option, Some, None}
use Rattle.std.specs.List.{sum_by}
use Rattle.std.specs.Option.{option_map_or}
use Rattle.osv_prim.specs.declared.package.PackageKey.{PackageKey}
use Rattle.osv_prim.specs.declared.subject.Subject.{Subject}
use Rattle.osv_prim.specs.declared.subject.Subject.TheVariants.{Package, Commit, CommitIn}
use Rattle.osv_record.specs.Advisories.{Extent, Entry, Advisory}
use Rattle.evaluate.specs.Hits.{Repo, graph_of, is_of_package}

-- the rows of a GIT range's repository, where its graph is there
abbrev pub range_rows : List Repo → Extent → ℕ
range_rows repos extent = option_map_or (λ key. option_map_or length (graph_of repos key) 0) extent.repo 0

-- those of an entry's ranges, each range counted for itself, where the entry is of the asked package
abbrev pub entry_rows : List Repo → Option PackageKey → Entry → ℕ
entry_rows repos asked entry = if is_of_package asked entry.«package» then sum_by (range_rows repos) entry.ranges else 0

abbrev pub git_rows : List Repo → Option PackageKey → Advisory → ℕ
git_rows repos asked advisory = sum_by (entry_rows repos asked) advisory.affected

-- a package and its version are looked up in no graph
abbrev pub subject_rows : List Repo → Subject → Advisory → ℕ
subject_rows repos (Package asked version) advisory = 0
subject_rows repos (Commit commit) advisory = git_rows repos None advisory
subject_rows repos (CommitIn commit asked) advisory = git_rows repos (Some asked) advisory
