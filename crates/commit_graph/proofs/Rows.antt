-- The rows of a graph by their numbers.
use Rattle.std.proofs.Common.{◌≡◌, ℕ, ◌<◌, List, [], length, map, take, get_or, Contains, Option, Some, None, sym, ap, ◌∙◌, arith}
use Rattle.std.specs.Prelude.{IfSome}
use Rattle.std.specs.Str.{bytes_eq}
use Rattle.std.proofs.lemmas.List.{length-map, get_or-map, get_or-take, get_or_default, take-map}
use Rattle.std.proofs.lemmas.List.Elements.{Contains-get_or}
use Rattle.std.proofs.lemmas.List.Quantifiers.{position-Some}
use Rattle.std.proofs.lemmas.Slice.Eq.{bytes_eq-Decides}
use Rattle.osv_prim.specs.declared.oid.CommitRow.{CommitRow}
use Rattle.osv_prim.specs.Graphs.{ids, number_of, id_at, parents_at}

pub length-ids : (graph : List CommitRow) → length (ids graph) ≡ length graph
length-ids graph = length-map graph (λ (r : CommitRow). r.oid)

-- the id and the parents of a row
pub id_at-row : (graph : List CommitRow) (k : ℕ) (d : CommitRow) → k < length graph → id_at graph k ≡ (get_or graph k d).oid
id_at-row graph k d lt = get_or-map (λ (r : CommitRow). r.oid) graph k d [] lt

pub parents_at-row : (graph : List CommitRow) (k : ℕ) (d : CommitRow) → k < length graph → parents_at graph k ≡ (get_or graph k d).parents
parents_at-row graph k d lt = get_or-map (λ (r : CommitRow). r.parents) graph k d [] lt

-- a commit of the graph has a row, and a row's commit is in the graph
pub row_of : (graph : List CommitRow) (a : List ℕ) → Contains (ids graph) a → (n : ℕ) × (n < length graph) × (id_at graph n ≡ a)
row_of graph a c = (c.0, omega (arith, c.1, length-ids graph), get_or_default (ids graph) c.0 [] a c.1 ∙ c.2)

pub has_row : (graph : List CommitRow) (n : ℕ) → n < length graph → Contains (ids graph) (id_at graph n)
has_row graph n lt = Contains-get_or (ids graph) n [] (omega (arith, length-ids graph))

-- a commit's number leads back to it
pub found : (graph : List CommitRow) (c : List ℕ) (n : ℕ) → number_of graph c ≡ Some n → (n < length graph) × (id_at graph n ≡ c)
found graph c n e =
    let p = position-Some (bytes_eq c) (ids graph) n [] e in
    (omega (arith, p.0, length-ids graph), sym ((bytes_eq-Decides c (id_at graph n)).0 p.1))

pub its_id : (graph : List CommitRow) (c : List ℕ) (o : Option ℕ) → o ≡ number_of graph c → IfSome o (λ n. id_at graph n ≡ c)
its_id graph c None is = tt
its_id graph c (Some n) is = (found graph c n (sym is)).1

-- ---- a graph's first rows have their ids and parents in the whole graph

pub ids-take : (graph : List CommitRow) (k : ℕ) → ids (take k graph) ≡ take k (ids graph)
ids-take graph k = sym (take-map (λ (r : CommitRow). r.oid) k graph)

pub id_at-take : (graph : List CommitRow) (k n : ℕ) → n < k → id_at (take k graph) n ≡ id_at graph n
id_at-take graph k n lt = ap (λ (xs : List (List ℕ)). get_or xs n []) (ids-take graph k) ∙ get_or-take k (ids graph) n [] lt

pub parents_at-take : (graph : List CommitRow) (k n : ℕ) → n < k → parents_at (take k graph) n ≡ parents_at graph n
parents_at-take graph k n lt =
    ap (λ (xs : List (List (List ℕ))). get_or xs n []) (sym (take-map (λ (r : CommitRow). r.parents) k graph))
    ∙ get_or-take k (map (λ (r : CommitRow). r.parents) graph) n [] lt
