-- Which advisories hit what is asked (OSV schema 1.6, "Evaluation").
use Rattle.std.specs.Prelude.{ℕ, List, [], ◌∷◌, Bool, true, false, not, ◌&&◌, ◌||◌, if◌then◌else◌, Option, Some, None, filter, map}
use Rattle.std.specs.List.{list_any}
use Rattle.std.specs.Option.{option_map_or}
use Rattle.std.specs.Str.{bytes_eq}
use Rattle.osv_prim.specs.declared.package.PackageKey.{PackageKey}
use Rattle.osv_prim.specs.declared.subject.Subject.{Subject}
use Rattle.osv_prim.specs.declared.subject.Subject.TheVariants.{Package, Commit, CommitIn}
use Rattle.osv_prim.specs.Graphs.{has}
use Rattle.osv_prim.specs.Packages.{matches}
use Rattle.osv_prim.specs.declared.event.Event.{Event}
use Rattle.osv_prim.specs.declared.oid.CommitRow.{CommitRow}
use Rattle.osv_record.specs.Advisories.{Extent, Entry, Advisory}
use Rattle.osv_record.specs.Imports.{records}
use Rattle.git_range.specs.Affected.{is_affected}
use Rattle.version_order.specs.Bounds.{contains_text}
use Rattle.version_order.specs.Orders.{order_of}

-- ---- versions

-- the range has an order of versions, and contains the version in it
abbrev pub range_contains : List ℕ → List ℕ → Extent → Bool
range_contains ecosystem version extent = option_map_or (λ order. contains_text order extent.events version) (order_of extent.kind ecosystem) false

-- no version is asked for, or the entry lists it, or one of its ranges contains it
abbrev pub affects_version : List ℕ → Option (List ℕ) → Entry → Bool
affects_version ecosystem None entry = true
affects_version ecosystem (Some version) entry = list_any (λ listed. bytes_eq version listed) entry.versions || list_any (range_contains ecosystem version) entry.ranges

-- the entry's package matches the asked one, and the entry affects the version
abbrev pub version_entry_hit : PackageKey → Option (List ℕ) → Entry → Bool
version_entry_hit asked version entry = option_map_or (λ key. matches key asked && affects_version key.ecosystem version entry) entry.«package» false

-- some entry's package matches the asked one, and that entry affects the version, where one is asked for
abbrev pub version_hit : Advisory → PackageKey → Option (List ℕ) → Bool
version_hit advisory asked version = list_any (version_entry_hit asked version) advisory.affected

-- ---- commits

-- a repository's key, and its graph of commits
abbrev pub Repo : Type 0
Repo = List ℕ × List CommitRow

-- the graph of a repository
abbrev pub graph_of : List Repo → List ℕ → Option (List CommitRow)
graph_of [] key = None
graph_of (repo ∷ repos) key = if bytes_eq repo.0 key then Some repo.1 else graph_of repos key

-- the graph has the commit, and the events affect it
abbrev pub affects_commit : List ℕ → List Event → List CommitRow → Bool
affects_commit commit events graph = has graph commit && is_affected graph events commit

-- the repository of a GIT range has a graph with the commit, and the range affects it
abbrev pub git_range_hit : List Repo → List ℕ → Extent → Bool
git_range_hit repos commit extent = option_map_or (λ key. option_map_or (affects_commit commit extent.events) (graph_of repos key) false) extent.repo false

-- no package is asked for, or an entry of this package is of the asked one
abbrev pub is_of_package : Option PackageKey → Option PackageKey → Bool
is_of_package None key = true
is_of_package (Some asked) None = false
is_of_package (Some asked) (Some key) = matches key asked

abbrev pub git_entry_hit : List Repo → List ℕ → Option PackageKey → Entry → Bool
git_entry_hit repos commit asked entry = is_of_package asked entry.«package» && list_any (git_range_hit repos commit) entry.ranges

-- some entry, of the package where one is asked for, has a GIT range that affects the commit
abbrev pub git_hit : Advisory → List Repo → List ℕ → Option PackageKey → Bool
git_hit advisory repos commit asked = list_any (git_entry_hit repos commit asked) advisory.affected

-- ---- what is asked

abbrev pub affects_subject : List Repo → Subject → Advisory → Bool
affects_subject repos (Package asked version) advisory = version_hit advisory asked version
affects_subject repos (Commit commit) advisory = git_hit advisory repos commit None
affects_subject repos (CommitIn commit asked) advisory = git_hit advisory repos commit (Some asked)

-- the advisory is not withdrawn, and affects what is asked
abbrev pub is_hit : List Repo → Subject → Advisory → Bool
is_hit repos subject advisory = not advisory.withdrawn && affects_subject repos subject advisory

-- the last import of each id, where it hits, ascending by id
abbrev pub hits : List Advisory → List Repo → Subject → List Advisory
hits imports repos subject = filter (is_hit repos subject) (records imports)

abbrev pub ids_of : List Advisory → List (List ℕ)
ids_of advisories = map (λ advisory. advisory.id) advisories

-- the ids of the hits, ascending
abbrev pub hit_ids : List Advisory → List Repo → Subject → List (List ℕ)
hit_ids imports repos subject = ids_of (hits imports repos subject)

-- an advisory under its id
abbrev pub keyed : Advisory → List ℕ × Advisory
keyed advisory = (advisory.id, advisory)
