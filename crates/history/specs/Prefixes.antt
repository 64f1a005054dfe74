-- What imports in order come to: the advisories that count, and the graphs of repositories (our own).
use Rattle.std.specs.Prelude.{ℕ, List, [], ◌∷◌, ◌++◌, length, map, take, fold, if◌then◌else◌}
use Rattle.std.specs.Str.{bytes_eq}
use Rattle.osv_prim.specs.declared.oid.CommitRow.{CommitRow}
use Rattle.osv_prim.specs.Graphs.{joined}
use Rattle.osv_record.specs.Advisories.{Advisory}
use Rattle.osv_record.specs.Imports as counting
use Rattle.evaluate.specs.Hits.{Repo}
use Rattle.history.specs.declared.past.Past.{Past}
use Rattle.history.specs.declared.past.Past.TheVariants.{Import, Grow, Publish}

-- ---- advisories

-- the imported advisories, in order
abbrev pub advisories : List Past → List Advisory
advisories [] = []
advisories (Import by advisory ∷ p) = advisory ∷ advisories p
advisories (Grow by key rows ∷ p) = advisories p
advisories (Publish by upto ∷ p) = advisories p

-- the import of each id that counts, ascending by id
abbrev pub records : List Past → List Advisory
records p = counting.records (advisories p)

-- ---- graphs

-- the rows of each Grow of a repository, in order
abbrev pub grown : List Past → List ℕ → List (List CommitRow)
grown [] key = []
grown (Import by advisory ∷ p) key = grown p key
grown (Grow by u rows ∷ p) key = if bytes_eq u key then rows ∷ grown p key else grown p key
grown (Publish by upto ∷ p) key = grown p key

-- the rows of the Grows of a repository, one after another
abbrev pub rows_of : List Past → List ℕ → List CommitRow
rows_of [] key = []
rows_of (Import by advisory ∷ p) key = rows_of p key
rows_of (Grow by u rows ∷ p) key = if bytes_eq u key then rows ++ rows_of p key else rows_of p key
rows_of (Publish by upto ∷ p) key = rows_of p key

-- how many Grows there are of a repository
abbrev pub grows : List Past → List ℕ → ℕ
grows p key = length (grown p key)

-- the rows of the Grows of a repository, joined in order
abbrev pub graph : List Past → List ℕ → List CommitRow
graph p key = fold joined [] (grown p key)

-- the same of the first so many Grows
abbrev pub graph_at : ℕ → List Past → List ℕ → List CommitRow
graph_at version p key = fold joined [] (take version (grown p key))

-- the keys and this one, unless it is there already
abbrev pub with_key : List (List ℕ) → List ℕ → List (List ℕ)
with_key [] key = key ∷ []
with_key (u ∷ us) key = if bytes_eq key u then u ∷ us else u ∷ with_key us key

abbrev pub keys_from : List (List ℕ) → List Past → List (List ℕ)
keys_from us [] = us
keys_from us (Import by advisory ∷ p) = keys_from us p
keys_from us (Grow by key rows ∷ p) = keys_from (with_key us key) p
keys_from us (Publish by upto ∷ p) = keys_from us p

-- the repositories that have a Grow, by their first one
abbrev pub keys : List Past → List (List ℕ)
keys p = keys_from [] p

-- the repositories that have a Grow, by their first one, each with its graph
abbrev pub graphs : List Past → List Repo
graphs p = map (λ key. (key, graph p key)) (keys p)

-- rows joined to a repository's graph, at the end where it has none yet
abbrev pub with_rows : List Repo → List ℕ → List CommitRow → List Repo
with_rows [] key rows = (key, joined [] rows) ∷ []
with_rows (repo ∷ repos) key rows = if bytes_eq key repo.0 then (repo.0, joined repo.1 rows) ∷ repos else repo ∷ with_rows repos key rows

-- graphs, and then the Grows of imports in turn
abbrev pub graphs_from : List Repo → List Past → List Repo
graphs_from repos [] = repos
graphs_from repos (Import by advisory ∷ p) = graphs_from repos p
graphs_from repos (Grow by key rows ∷ p) = graphs_from (with_rows repos key rows) p
graphs_from repos (Publish by upto ∷ p) = graphs_from repos p
