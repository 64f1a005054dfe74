-- Rows that are noted one after another, graph by graph.
use Rattle.std.proofs.Common.{◌≡◌, ℕ, zero, suc, ◌+◌, ◌<◌, ◌≤◌, Bool, true, false, cond, List, [], ◌∷◌, ◌++◌, length, map, take, get_or, filter, sum_by, refl, sym, ap, ◌∙◌, arith, append-nil, append_assoc, is_eq, Some, slice_get}
use Rattle.std.specs.List.{range_with_len}
use Rattle.std.specs.Ordering.{nat_cmp}
use Rattle.std.specs.Cmp.Lexicographic.{slice_cmp}
use Rattle.std.specs.Str.{bytes_eq}
use Rattle.std.proofs.lemmas.Map.Text.{is_eq-slice_cmp}
use Rattle.std.proofs.lemmas.List.{map-append, take_more, length-take, length-map}
use Rattle.std.proofs.lemmas.List.Elements.{filter-append}
use Rattle.std.proofs.lemmas.List.FromFn.{map-range_with_len_more}
use Rattle.std.proofs.lemmas.List.Sums.{sum_by-append, sum_by-cons}
use Rattle.std.proofs.lemmas.Option.{slice_get_within, get_or_from_slice_get}
use Rattle.osv_prim.specs.declared.oid.CommitRow.{CommitRow}
use Rattle.osv_prim.specs.Graphs.{id_at}
use Rattle.commit_graph.proofs.Rows.{id_at-row}
use Rattle.multimap.proofs.Entries.{values_of-push}
use Rattle.commit_index.specs.Places.{place_in, places_from, found}

-- ---- the rows of a graph

-- the first rows that have the commit
abbrev pub rows-before : List CommitRow → List ℕ → ℕ → List ℕ
rows-before graph c n = filter (λ k. bytes_eq (id_at graph k) c) (range_with_len 0 n)

picked : (b : Bool) (repo n : ℕ) → cond {A = List (ℕ × ℕ)} b ((repo, n) ∷ []) [] ≡ map (λ (k : ℕ). (repo, k)) (cond b (n ∷ []) [])
picked true repo n = refl
picked false repo n = refl

same-map : (xs : List ℕ) → map (λ x. x) xs ≡ xs
same-map [] = refl
same-map (x ∷ xs) = ap (λ (ys : List ℕ). x ∷ ys) (same-map xs)

range-more : (n : ℕ) → range_with_len 0 (n + 1) ≡ range_with_len 0 n ++ n ∷ []
range-more n =
    sym (same-map (range_with_len 0 (n + 1))) ∙ map-range_with_len_more (λ (x : ℕ). x) 0 n n (omega arith) ∙ ap (λ (xs : List ℕ). xs ++ n ∷ []) (same-map (range_with_len 0 n))

rows-more : (graph : List CommitRow) (c : List ℕ) (n : ℕ) → rows-before graph c (n + 1) ≡ rows-before graph c n ++ cond (bytes_eq (id_at graph n) c) (n ∷ []) []
rows-more graph c n =
    ap (filter (λ k. bytes_eq (id_at graph k) c)) (range-more n) ∙ filter-append (λ k. bytes_eq (id_at graph k) c) (range_with_len 0 n) (n ∷ [])

pub found-more : (graph : List CommitRow) (repo n : ℕ) (entries old : List (List ℕ × (ℕ × ℕ))) → ((c : List ℕ) → found entries c ≡ found old c ++ map (λ k. (repo, k)) (rows-before graph c n))
    → (id : List ℕ) → id ≡ id_at graph n → (c : List ℕ) → found (entries ++ (id, (repo, n)) ∷ []) c ≡ found old c ++ map (λ k. (repo, k)) (rows-before graph c (n + 1))
found-more graph repo n entries old so_far id is c =
    values_of-push (slice_cmp nat_cmp) entries id (repo, n) c
    ∙ ap (λ (xs : List (ℕ × ℕ)). xs ++ cond (is_eq (slice_cmp nat_cmp id c)) ((repo, n) ∷ []) []) (so_far c)
    ∙ append_assoc (found old c) (map (λ (k : ℕ). (repo, k)) (rows-before graph c n)) (cond (is_eq (slice_cmp nat_cmp id c)) ((repo, n) ∷ []) [])
    ∙ ap (λ (xs : List (ℕ × ℕ)). found old c ++ xs)
    (ap (λ (b : Bool). map (λ (k : ℕ). (repo, k)) (rows-before graph c n) ++ cond b ((repo, n) ∷ []) []) (is_eq-slice_cmp id c ∙ ap (λ (i : List ℕ). bytes_eq i c) is)
    ∙ ap (λ (xs : List (ℕ × ℕ)). map (λ (k : ℕ). (repo, k)) (rows-before graph c n) ++ xs) (picked (bytes_eq (id_at graph n) c) repo n)
    ∙ sym (map-append (λ (k : ℕ). (repo, k)) (rows-before graph c n) (cond (bytes_eq (id_at graph n) c) (n ∷ []) []))
    ∙ ap (map (λ (k : ℕ). (repo, k))) (sym (rows-more graph c n)))

-- ---- one graph after another

places-after : (repo : ℕ) (graphs : List (List CommitRow)) (graph : List CommitRow) (c : List ℕ)
    → places_from repo (graphs ++ graph ∷ []) c ≡ places_from repo graphs c ++ place_in (repo + length graphs) graph c
places-after repo [] graph c =
    append-nil (place_in repo graph c) ∙ ap (λ (k : ℕ). place_in k graph c) (omega arith)
places-after repo (first ∷ graphs) graph c =
    ap (λ (xs : List (ℕ × ℕ)). place_in repo first c ++ xs) (places-after (repo + 1) graphs graph c)
    ∙ sym (append_assoc (place_in repo first c) (places_from (repo + 1) graphs c) (place_in (repo + 1 + length graphs) graph c))
    ∙ ap (λ (k : ℕ). (place_in repo first c ++ places_from (repo + 1) graphs c) ++ place_in k graph c) (omega arith)

module _ {X : Type 0} (graph_of : X → List CommitRow) (repos : List X) (i : ℕ) (item : X) (lt : i < length repos) (is : item ≡ get_or repos i item) where
  first-more : map graph_of (take (i + 1) repos) ≡ map graph_of (take i repos) ++ graph_of item ∷ []
  first-more =
      ap (map graph_of) (take_more repos i item lt) ∙ map-append graph_of (take i repos) (get_or repos i item ∷ [])
      ∙ ap (λ (x : X). map graph_of (take i repos) ++ graph_of x ∷ []) (sym is)

  first-length : length (map graph_of (take i repos)) ≡ i
  first-length = omega (arith, length-map (take i repos) graph_of, length-take i repos)

  pub places-more : (c : List ℕ) → places_from 0 (map graph_of (take (i + 1) repos)) c ≡ places_from 0 (map graph_of (take i repos)) c ++ place_in i (graph_of item) c
  places-more c =
      ap (λ (gs : List (List CommitRow)). places_from 0 gs c) first-more ∙ places-after 0 (map graph_of (take i repos)) (graph_of item) c
      ∙ ap (λ (k : ℕ). places_from 0 (map graph_of (take i repos)) c ++ place_in k (graph_of item) c) (omega (arith, first-length))

  pub lengths-more : sum_by length (map graph_of (take (i + 1) repos)) ≡ sum_by length (map graph_of (take i repos)) + length (graph_of item)
  lengths-more =
      ap (sum_by (λ (g : List CommitRow). length g)) first-more ∙ sum_by-append (λ (g : List CommitRow). length g) (map graph_of (take i repos)) (graph_of item ∷ [])
      ∙ omega arith

-- the rows of the first graphs are no more than all
pub first-fewer : {X : Type 0} (graph_of : X → List CommitRow) (repos : List X) (n : ℕ) → sum_by length (map graph_of (take n repos)) ≤ sum_by length (map graph_of repos)
first-fewer graph_of [] zero = omega arith
first-fewer graph_of [] (suc n) = omega arith
first-fewer graph_of (x ∷ repos) zero = omega arith
first-fewer graph_of (x ∷ repos) (suc n) =
    omega (arith, first-fewer graph_of repos n, sum_by-cons (λ (g : List CommitRow). length g) (graph_of x) (map graph_of repos), sum_by-cons (λ (g : List CommitRow). length g) (graph_of x) (map graph_of (take n repos)))

-- a row that was read
pub row-id : (graph : List CommitRow) (n : ℕ) (row : CommitRow) → slice_get graph n ≡ Some row → row.oid ≡ id_at graph n
row-id graph n row at = sym (id_at-row graph n row (slice_get_within graph n row at) ∙ ap (λ (r : CommitRow). r.oid) (get_or_from_slice_get graph n row row at))
