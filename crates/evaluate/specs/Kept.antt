-- What is kept of imports that come one after another (our own).
use Rattle.std.specs.Prelude.{◌≡◌, ℕ, List, Bool, not, ◌&&◌, Option, Some, None, is_some, filter, map}
use Rattle.std.specs.List.{list_any}
use Rattle.osv_prim.specs.declared.package.PackageKey.{PackageKey}
use Rattle.osv_prim.specs.declared.subject.Subject.{Subject}
use Rattle.osv_prim.specs.declared.subject.Subject.TheVariants.{Commit, CommitIn}
use Rattle.osv_record.specs.Advisories.{Extent, Entry, Advisory}
use Rattle.osv_record.specs.Imports.{records}
use Rattle.evaluate.specs.Hits.{Repo, git_entry_hit, hit_ids}
use Rattle.evaluate.specs.declared.git_imports.GitImports.{GitImports}
use Rattle.evaluate.specs.declared.hit_ids.HitIds.{HitIds}

-- the ids are those of the hits of these imports
unfoldable pub HoldsHits : List Repo → Subject → List Advisory → HitIds → Type 0
HoldsHits repos subject imports found = found.ids.keys ≡ hit_ids imports repos subject

-- ---- where a commit is asked for

-- some range has a repository, as GIT ranges alone have
abbrev pub has_repo : List Extent → Bool
has_repo ranges = list_any (λ (extent : Extent). is_some extent.repo) ranges

-- some entry has a GIT range
abbrev pub has_git_range : List Entry → Bool
has_git_range entries = list_any (λ (entry : Entry). has_repo entry.ranges) entries

-- the advisory hits a commit, if the graph of some repository makes it so
abbrev pub may_hit : Advisory → Bool
may_hit advisory = not advisory.withdrawn && has_git_range advisory.affected

-- an advisory's entries under its id
abbrev pub entries_by_id : Advisory → List ℕ × List Entry
entries_by_id advisory = (advisory.id, advisory.affected)

-- of the imports that count, the entries of those that may hit a commit, ascending by id
unfoldable pub KeepsEntries : List Advisory → GitImports → Type 0
KeepsEntries imports kept = kept.entries.entries ≡ map entries_by_id (filter may_hit (records imports))

-- a commit is asked for, in entries of a package where there is one
abbrev pub commit_subject : List ℕ → Option PackageKey → Subject
commit_subject commit None = Commit commit
commit_subject commit (Some asked) = CommitIn commit asked

-- the ids under which some entry hits the commit
abbrev pub ids_of_entries : List Repo → List ℕ → Option PackageKey → List (List ℕ × List Entry) → List (List ℕ)
ids_of_entries repos commit asked kept = map (λ p. p.0) (filter (λ p. list_any (git_entry_hit repos commit asked) p.1) kept)
