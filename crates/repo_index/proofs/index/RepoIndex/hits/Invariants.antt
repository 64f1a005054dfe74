use Rattle.std.proofs.Common.{◌≡◌, ℕ, ◌&&◌, leb, List, take}
use Rattle.std.specs.List.{list_any}
use Rattle.package_index.proofs.Rising.{has}
use Rattle.repo_index.specs.Index.{AscendFrom, found, has_at}
use Rattle.repo_index.proofs.index.RepoIndex.hits.Given as goal

abbrev pub invariant-loop-place : goal.invariant-loop-place
invariant-loop-place l =
    ((repo : List ℕ) → AscendFrom 0 (found l.self repo)) → (i : ℕ) → has l.indexes.items i ≡ list_any (λ x. leb l.start i && list_any (has_at x.1 i) (found l.self x.0.now)) (take l.place-index l.places)
