-- What a book has of a drill (our own).
use Rattle.std.specs.Prelude.{◌≡◌, ℕ, ◌≤◌, List, [], ◌∷◌, length}
use Rattle.osv_prim.specs.declared.oid.CommitRow.{CommitRow}
use Rattle.osv_prim.specs.Graphs.{joined}
use Rattle.osv_prim.specs.Repos.{normal_repo}
use Rattle.osv_record.specs.Advisories.{Advisory}
use Rattle.history.specs.Prefixes.{advisories, keys, with_key, graph}
use Rattle.history.specs.Entries.{imports}
use Rattle.book_model.specs.State.{State, published}
use Rattle.drill_input.specs.Questions.{repo_url}

unfoldable pub drill_key : List ℕ
drill_key = normal_repo repo_url

-- there is no other repository than the drill's
abbrev pub IsOnly : List (List ℕ) → Type 0
IsOnly ks = with_key ks drill_key ≡ drill_key ∷ []

-- these advisories were imported, and these rows for the drill's repository; these repositories have a Grow
pub record Has (s : State) (imported : List Advisory) (ks : List (List ℕ)) (rows : List CommitRow) : Type 0 where
  pub came : advisories s.history ≡ imported
  pub repos : keys s.history ≡ ks
  pub its_graph : graph s.history drill_key ≡ joined [] rows

-- the newest snapshot is of all imports
abbrev pub IsPublished : State → Type 0
IsPublished s = length (imports s.history) ≤ published s.history
