-- Graphs put in place of those that repositories had.
use Rattle.std.proofs.Common.{◌≡◌, ℕ, ◌+◌, ◌<◌, length, take, get_or, Bool, true, false, cond, List, [], ◌∷◌, ◌++◌, map, Bor, Option, Some, None, bytes_eq, refl, sym, ap, subst, ◌∙◌, append_assoc}
use Rattle.std.specs.List.{AllByRecursion}
use Rattle.std.specs.Option.{option_map_or}
use Rattle.std.proofs.lemmas.List.{append-nil, map_more}
use Rattle.std.proofs.lemmas.Slice.Eq.{bytes_eq-Decides}
use Rattle.osv_prim.specs.declared.oid.CommitRow.{CommitRow}
use Rattle.osv_prim.specs.Graphs.{joined}
use Rattle.evaluate.specs.Hits.{Repo, graph_of}
use Rattle.history.specs.declared.past.Past.{Past}
use Rattle.history.specs.declared.past.Past.TheVariants.{Grow}
use Rattle.history.specs.Prefixes.{keys, graph, graphs, with_rows}
use Rattle.history.proofs.Prefixes.{Apart, keys-apart, graphs-go_on, graph-goes_on}
use Rattle.history.proofs.Lookups.{graph-found_exactly, graph-stays}
use Rattle.history.specs.Lookups.{has_grow}
use Rattle.indexmap.specs.IndexMap.{insert_entry}
use Rattle.impact_job.specs.Tables.{with_graph, with_graphs}

pub with_graphs-append : (repos xs ys : List Repo) → with_graphs repos (xs ++ ys) ≡ with_graphs (with_graphs repos xs) ys
with_graphs-append repos [] ys = refl
with_graphs-append repos (x ∷ xs) ys = with_graphs-append (with_graph repos x.0 x.1) xs ys

-- ---- keys that are apart are all put at the end

same_key : (a b : List ℕ) → bytes_eq a b ≡ true → a ≡ b
same_key a b e = (bytes_eq-Decides a b).0 e

false_from : (b : Bool) → (b ≡ true → ⊥) → b ≡ false
false_from true h = absurd (h refl)
false_from false h = refl

turned : (a b : List ℕ) → bytes_eq a b ≡ false → bytes_eq b a ≡ false
turned a b e = false_from (bytes_eq b a) (λ t. let s : bytes_eq a b ≡ true = (bytes_eq-Decides a b).1 (sym (same_key b a t)) in absurd cc)

one_of : (u v : List ℕ) (us vs : List (List ℕ)) → AllByRecursion (λ w. bytes_eq u w ≡ false) (us ++ v ∷ vs) → bytes_eq u v ≡ false
one_of u v [] vs p = p.0
one_of u v (x ∷ us) vs p = one_of u v us vs p.1

at_end : (f : List ℕ → List CommitRow) (us : List (List ℕ)) (v : List ℕ) (vs : List (List ℕ)) → Apart (us ++ v ∷ vs) → with_graph (map (λ u. (u, f u)) us) v (f v) ≡ map (λ u. (u, f u)) (us ++ v ∷ [])
at_end f [] v vs p = refl
at_end f (u ∷ us) v vs p =
    ap (λ (b : Bool). cond b ((u, f v) ∷ map (λ w. (w, f w)) us) ((u, f u) ∷ with_graph (map (λ w. (w, f w)) us) v (f v))) (turned u v (one_of u v us vs p.0))
    ∙ ap (λ (xs : List Repo). (u, f u) ∷ xs) (at_end f us v vs p.1)

put_apart : (f : List ℕ → List CommitRow) (us vs : List (List ℕ)) → Apart (us ++ vs) → with_graphs (map (λ u. (u, f u)) us) (map (λ u. (u, f u)) vs) ≡ map (λ u. (u, f u)) (us ++ vs)
put_apart f us [] p = ap (map (λ u. (u, f u))) (sym (append-nil us))
put_apart f us (v ∷ vs) p =
    ap (λ (xs : List Repo). with_graphs xs (map (λ u. (u, f u)) vs)) (at_end f us v vs p)
    ∙ put_apart f (us ++ v ∷ []) vs (subst (λ (ws : List (List ℕ)). Apart ws) (sym (append_assoc us (v ∷ []) vs)) p)
    ∙ ap (map (λ u. (u, f u))) (append_assoc us (v ∷ []) vs)

pub put_anew : (p : List Past) → with_graphs [] (graphs p) ≡ graphs p
put_anew p = put_apart (graph p) [] (keys p) (keys-apart [] p tt)

pub planned_graphs : (b p : List Past) (base grown later : List Repo) → base ≡ graphs b → grown ≡ later → with_graphs (graphs b) later ≡ graphs p → with_graphs [] (base ++ grown) ≡ graphs p
planned_graphs b p base grown later e f g =
    with_graphs-append [] base grown
    ∙ ap (λ (xs : List Repo). with_graphs (with_graphs [] xs) grown) e
    ∙ ap (λ (xs : List Repo). with_graphs xs grown) (put_anew b)
    ∙ ap (λ (xs : List Repo). with_graphs (graphs b) xs) f ∙ g

-- ---- a Grow more

abbrev base_of : Option (List CommitRow) → List CommitRow
base_of o = option_map_or (λ g. g) o []

grown_step : (key : List ℕ) (repo : Repo) (repos : List Repo) (rows g : List CommitRow) (a b : Bool) → a ≡ b
    → (b ≡ true → joined repo.1 rows ≡ g) → (b ≡ false → with_rows repos key rows ≡ with_graph repos key g)
    → cond a ((repo.0, joined repo.1 rows) ∷ repos) (repo ∷ with_rows repos key rows) ≡ cond b ((repo.0, g) ∷ repos) (repo ∷ with_graph repos key g)
grown_step key repo repos rows g true true e this later = ap (λ (x : List CommitRow). (repo.0, x) ∷ repos) (this refl)
grown_step key repo repos rows g false false e this later = ap (λ (xs : List Repo). repo ∷ xs) (later refl)
grown_step key repo repos rows g true false e this later = absurd cc
grown_step key repo repos rows g false true e this later = absurd cc

found_first : (key : List ℕ) (repo : Repo) (repos : List Repo) → bytes_eq repo.0 key ≡ true → graph_of (repo ∷ repos) key ≡ Some repo.1
found_first key repo repos e = ap (λ (b : Bool). cond b (Some repo.1) (graph_of repos key)) e

found_later : (key : List ℕ) (repo : Repo) (repos : List Repo) → bytes_eq repo.0 key ≡ false → graph_of (repo ∷ repos) key ≡ graph_of repos key
found_later key repo repos e = ap (λ (b : Bool). cond b (Some repo.1) (graph_of repos key)) e

grown-as : (repos : List Repo) (key : List ℕ) (rows g : List CommitRow) → joined (base_of (graph_of repos key)) rows ≡ g → with_rows repos key rows ≡ with_graph repos key g
grown-as [] key rows g e = ap (λ (x : List CommitRow). (key, x) ∷ []) e
grown-as (repo ∷ repos) key rows g e =
    grown_step key repo repos rows g (bytes_eq key repo.0) (bytes_eq key repo.0) refl
    (λ t. ap (λ (o : Option (List CommitRow)). joined (base_of o) rows) (sym (found_first key repo repos ((bytes_eq-Decides repo.0 key).1 (sym (same_key key repo.0 t))))) ∙ e)
    (λ f. grown-as repos key rows g (ap (λ (o : Option (List CommitRow)). joined (base_of o) rows) (sym (found_later key repo repos (turned key repo.0 f))) ∙ e))

base_step : (p : List Past) (key : List ℕ) (b : Bool) → has_grow p key ≡ b → base_of (cond b (Some (graph p key)) None) ≡ graph p key
base_step p key true e = refl
base_step p key false e = sym (graph-stays [] p key e)

graph_before : (p : List Past) (key : List ℕ) → base_of (graph_of (graphs p) key) ≡ graph p key
graph_before p key = ap base_of (graph-found_exactly p key) ∙ base_step p key (has_grow p key) refl

own_rows : (key : List ℕ) (rows : List CommitRow) (b : Bool) → b ≡ true → cond b (rows ++ []) [] ≡ rows
own_rows key rows true e = append-nil rows
own_rows key rows false e = absurd cc

pub graphs-grow : (p : List Past) (by : ℕ) (key : List ℕ) (rows g : List CommitRow) → g ≡ graph (p ++ Grow by key rows ∷ []) key → graphs (p ++ Grow by key rows ∷ []) ≡ with_graph (graphs p) key g
graphs-grow p by key rows g is =
    graphs-go_on p (Grow by key rows ∷ [])
    ∙ grown-as (graphs p) key rows g
    (ap (λ (x : List CommitRow). joined x rows) (graph_before p key)
    ∙ ap (joined (graph p key)) (sym (own_rows key rows (bytes_eq key key) ((bytes_eq-Decides key key).1 refl)))
    ∙ sym (graph-goes_on p (Grow by key rows ∷ []) key) ∙ sym is)

-- ---- entries of a map

abbrev pub eq_at : Bor (List ℕ) → Bor (List ℕ) → Bool
eq_at a b = bytes_eq a.now b.now

map-cond : {X Y : Type 0} (f : X → Y) (b : Bool) (xs ys : List X) → map f (cond b xs ys) ≡ cond b (map f xs) (map f ys)
map-cond f true xs ys = refl
map-cond f false xs ys = refl

module _ {V : Type 0} (see : V → List CommitRow) where
  abbrev pub repo_seen : Bor (List ℕ) × V → Repo
  repo_seen e = (e.0.now, see e.1)

  pub inserted : (es : List (Bor (List ℕ) × V)) (k : Bor (List ℕ)) (v : V) → map repo_seen (insert_entry eq_at es k v) ≡ with_graph (map repo_seen es) k.now (see v)
  inserted [] k v = refl
  inserted (e ∷ es) k v = map-cond repo_seen (eq_at k e.0) _ _ ∙ ap (λ (xs : List Repo). cond (bytes_eq k.now e.0.now) ((e.0.now, see v) ∷ map repo_seen es) (repo_seen e ∷ xs)) (inserted es k v)

-- two lists are put one after the other into an empty map
pub both_parts : {E : Type 0} (see : E → Repo) (none : List E) (first last base grown : List Repo) → none ≡ [] → first ≡ with_graphs (map see none) base → last ≡ with_graphs first grown
    → last ≡ with_graphs [] (base ++ grown)
both_parts {E = E} see none first last base grown e f g =
    g ∙ ap (λ (xs : List Repo). with_graphs xs grown) (f ∙ ap (λ (es : List E). with_graphs (map see es) base) e) ∙ sym (with_graphs-append [] base grown)

-- one graph more
pub one_graph : {A : Type 0} (see : A → Repo) (start now : List Repo) (xs : List A) (i : ℕ) (a : A) → i < length xs → a ≡ get_or xs i a → now ≡ with_graphs start (map see (take i xs))
    → with_graph now (see a).0 (see a).1 ≡ with_graphs start (map see (take (i + 1) xs))
one_graph see start now xs i a lt at so_far =
    ap (λ (gs : List Repo). with_graph gs (see a).0 (see a).1) so_far
    ∙ sym (with_graphs-append start (map see (take i xs)) (see a ∷ []))
    ∙ ap (λ (ys : List Repo). with_graphs start ys) (ap (λ (y : Repo). map see (take i xs) ++ y ∷ []) (ap see at) ∙ sym (map_more see xs i a lt))
