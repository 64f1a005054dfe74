-- Which advisories affect a commit (OSV schema 1.6, "Evaluation"), by their indexes in a list.
use Rattle.std.specs.Prelude.{ℕ, ◌+◌, ◌==◌, Bool, false, not, ◌&&◌, ◌||◌, List, [], ◌∷◌, ◌++◌, None, if◌then◌else◌}
use Rattle.std.specs.List.{list_any}
use Rattle.std.specs.Option.{option_map_or}
use Rattle.std.specs.Str.{bytes_eq}
use Rattle.osv_record.specs.Advisories.{Advisory, Entry, Extent}
use Rattle.evaluate.specs.Hits.{affects_commit, git_hit}
use Rattle.history.specs.declared.past.Past.{Past}
use Rattle.history.specs.Prefixes.{records, graph, graphs}

-- the range is on the repository, as GIT ranges alone are
abbrev pub is_on : List ℕ → Extent → Bool
is_on repo extent = option_map_or (λ own. bytes_eq own repo) extent.repo false

-- the range is on the repository, and affects the commit there
abbrev pub range_hits_on : List Past → List ℕ → List ℕ → Extent → Bool
range_hits_on p repo commit extent = is_on repo extent && affects_commit commit extent.events (graph p repo)

-- some range of the entry is, and does
abbrev pub entry_hits_on : List Past → List ℕ → List ℕ → Entry → Bool
entry_hits_on p repo commit entry = list_any (range_hits_on p repo commit) entry.ranges

-- the advisory is not withdrawn, and some entry's is, and does
abbrev pub hits_on : List Past → List ℕ → List ℕ → Advisory → Bool
hits_on p repo commit r = not r.withdrawn && list_any (entry_hits_on p repo commit) r.affected

-- the advisory is not withdrawn, and affects the commit, whatever the packages of its entries
abbrev pub is_git_hit : List Past → List ℕ → Advisory → Bool
is_git_hit p commit r = not r.withdrawn && git_hit r (graphs p) commit None

-- the advisory with this index passes a test, where the first one has the index n
abbrev pub passes_from : (Advisory → Bool) → ℕ → List Advisory → ℕ → Bool
passes_from test n [] i = false
passes_from test n (r ∷ later) i = (test r && (n == i)) || passes_from test (n + 1) later i

-- the indexes of the advisories that pass it
abbrev pub indexes_from : (Advisory → Bool) → ℕ → List Advisory → List ℕ
indexes_from test n [] = []
indexes_from test n (r ∷ later) = (if test r then n ∷ [] else []) ++ indexes_from test (n + 1) later

-- the indexes of the advisories that affect a commit, ascending
abbrev pub hit_indexes : List Past → List ℕ → List ℕ
hit_indexes p commit = indexes_from (is_git_hit p commit) 0 (records p)
