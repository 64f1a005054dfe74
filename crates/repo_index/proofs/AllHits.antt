-- The sets under the repositories of a commit tell its hits.
use Rattle.std.proofs.Common.{◌≡◌, ℕ, Bool, ◌&&◌, leb, List, sym, ap, ◌∙◌}
use Rattle.std.specs.Prelude.{filter}
use Rattle.std.specs.List.{list_any}
use Rattle.std.specs.List.Sorted.{IsStrictlySortedBy}
use Rattle.std.specs.Ordering.{nat_cmp}
use Rattle.history.specs.declared.past.Past.{Past}
use Rattle.history.specs.Prefixes.{keys, graph, graphs, records}
use Rattle.package_index.proofs.Rising.{has, same-members}
use Rattle.set_hits.specs.Places.{places_of}
use Rattle.repo_index.specs.Index.{Index, IsIndexOf, found, has_at}
use Rattle.repo_index.specs.Listing.{hits_on, is_git_hit, hit_indexes, passes_from}
use Rattle.repo_index.proofs.Listing.{indexes-rising, has-passes, filter-rising, has-filter, passes-any, passes-same}
use Rattle.repo_index.proofs.Placing.{any-placed, hit-places}

pub all-hits : (p : List Past) (commit : List ℕ) (index : Index) → IsIndexOf index p → (start : ℕ) (v : List ℕ) → IsStrictlySortedBy nat_cmp v
    → ((i : ℕ) → has v i ≡ (leb start i && list_any (λ place. list_any (has_at place.1 i) (found index place.0)) (places_of (graphs p) commit))) → v ≡ filter (leb start) (hit_indexes p commit)
all-hits p commit index is start v up members =
    same-members v (filter (leb start) (hit_indexes p commit)) up (filter-rising (leb start) (hit_indexes p commit) (indexes-rising (is_git_hit p commit) 0 (records p)))
    (λ i. members i
    ∙ ap (λ (b : Bool). leb start i && b)
    (any-placed (graph p) commit (λ place. list_any (has_at place.1 i) (found index place.0)) (λ place. passes_from (hits_on p place.0 commit) 0 (records p) i) (λ u n at. is.hits u commit n i at) (keys p)
    ∙ passes-any (λ place. hits_on p place.0 commit) (places_of (graphs p) commit) (records p) i
    ∙ passes-same (λ r. list_any (λ place. hits_on p place.0 commit r) (places_of (graphs p) commit)) (is_git_hit p commit) (hit-places p commit) 0 (records p) i
    ∙ sym (has-passes (is_git_hit p commit) 0 (records p) i))
    ∙ sym (has-filter (leb start) (hit_indexes p commit) i))
