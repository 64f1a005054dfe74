-- The repositories that a book keeps (our own).
use Rattle.std.specs.Prelude.{◌≡◌, ℕ, List, Option, Some, None}
use Rattle.std.specs.Arc.{arc_value}
use Rattle.history.specs.Entries.{History}
use Rattle.history.specs.Prefixes.{grows, graph}
use Rattle.book.specs.declared.repos.Repo.{Repo}

-- what is kept of a repository is its number of Grows and its graph; of one without a Grow nothing is kept
abbrev pub IsRepo : History → List ℕ → Option Repo → Type 0
IsRepo h key None = grows h key ≡ 0
IsRepo h key (Some repo) = (repo.grows ≡ grows h key) × (arc_value repo.graph ≡ graph h key)

-- that is what is found by each key
abbrev pub AreRepos : History → (List ℕ → Option Repo) → Type 0
AreRepos h found = (key : List ℕ) → IsRepo h key (found key)
