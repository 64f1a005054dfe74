-- Graphs that are looked up by the keys of repositories.
use Rattle.std.proofs.Common.{◌≡◌, ℕ, Bool, true, false, ◌||◌, cond, List, [], ◌∷◌, ◌++◌, Option, Some, None, Bor, length, bytes_eq, refl, sym, ap, ◌∙◌}
use Rattle.std.specs.Prelude.{is_some, option_map}
use Rattle.std.specs.Arc.{arc_value}
use Rattle.std.specs.declared.sync.Arc.{Arc}
use Rattle.std.specs.Map.{lookup}
use Rattle.std.proofs.lemmas.Slice.Eq.{bytes_eq-Decides}
use Rattle.osv_prim.specs.declared.oid.CommitRow.{CommitRow}
use Rattle.evaluate.specs.Hits.{Repo, graph_of}
use Rattle.history.specs.declared.past.Past.{Past}
use Rattle.history.specs.declared.past.Past.TheVariants.{Grow}
use Rattle.history.specs.Prefixes.{grown, graph, graphs}
use Rattle.history.specs.Lookups.{is_any, has_grow}
use Rattle.history.proofs.Prefixes.{grown-append}
use Rattle.history.proofs.Lookups.{graph-stays, graph-found_exactly}
use Rattle.impact_job.specs.Tables.{with_graph, with_graphs, has_repo}
use Rattle.impact_job.specs.Walks.{entries_seen}

alike : (x y : Bool) → (x ≡ true → y ≡ true) → (y ≡ true → x ≡ true) → x ≡ y
alike true y f g = sym (f refl)
alike false true f g = g refl
alike false false f g = refl

swapped : (a b : List ℕ) → bytes_eq a b ≡ bytes_eq b a
swapped a b =
    alike (bytes_eq a b) (bytes_eq b a) (λ t. (bytes_eq-Decides b a).1 (sym ((bytes_eq-Decides a b).0 t))) (λ t. (bytes_eq-Decides a b).1 (sym ((bytes_eq-Decides b a).0 t)))

pub some-map : {X Y : Type 0} (f : X → Y) (o : Option X) → is_some o ≡ is_some (option_map f o)
some-map f None = refl
some-map f (Some x) = refl

-- ---- the graph under a key

look_step : {V : Type 0} (see : V → List CommitRow) (a c : Bool) (v : V) (o : Option V) (rest : Option (List CommitRow)) → a ≡ c → option_map see o ≡ rest → option_map see (cond a (Some v) o) ≡ cond c (Some (see v)) rest
look_step see true true v o rest e h = refl
look_step see true false v o rest e h = absurd cc
look_step see false true v o rest e h = absurd cc
look_step see false false v o rest e h = h

pub looked_up : {Z : Type 0} (es : List (Bor (List ℕ) × Bor (Arc (List CommitRow) Z))) (key : List ℕ) → option_map (λ a. arc_value a.now) (lookup (λ k. bytes_eq key k.now) es) ≡ graph_of (entries_seen es) key
looked_up [] key = refl
looked_up (e ∷ es) key =
    look_step (λ a. arc_value a.now) (bytes_eq key e.0.now) (bytes_eq e.0.now key) e.1 (lookup (λ k. bytes_eq key k.now) es) (graph_of (entries_seen es) key) (swapped key e.0.now) (looked_up es key)

some_step : (p : List Past) (key : List ℕ) (g : List CommitRow) (b : Bool) → has_grow p key ≡ b → Some g ≡ cond b (Some (graph p key)) None → g ≡ graph p key
some_step p key g true e h = cc
some_step p key g false e h = absurd cc

none_step : (p : List Past) (key : List ℕ) (b : Bool) → has_grow p key ≡ b → None ≡ cond b (Some (graph p key)) None → [] ≡ graph p key
none_step p key true e h = absurd cc
none_step p key false e h = sym (graph-stays [] p key e)

-- what is found is the repository's graph, and where nothing is it is empty
pub found-graph : (p : List Past) (key : List ℕ) (g : List CommitRow) → Some g ≡ graph_of (graphs p) key → g ≡ graph p key
found-graph p key g e = some_step p key g (has_grow p key) refl (e ∙ graph-found_exactly p key)

pub missing-graph : (p : List Past) (key : List ℕ) → None ≡ graph_of (graphs p) key → [] ≡ graph p key
missing-graph p key e = none_step p key (has_grow p key) refl (e ∙ graph-found_exactly p key)

-- ---- whether a repository is there

some_first : (b : Bool) (g : List CommitRow) (o : Option (List CommitRow)) → is_some (cond b (Some g) o) ≡ (b || is_some o)
some_first true g o = refl
some_first false g o = refl

put_step : (key k : List ℕ) (repo : Repo) (repos : List Repo) (g : List CommitRow) (b : Bool) → bytes_eq k repo.0 ≡ b → is_some (graph_of (with_graph repos k g) key) ≡ (is_some (graph_of repos key) || bytes_eq k key)
    → is_some (graph_of (cond b ((repo.0, g) ∷ repos) (repo ∷ with_graph repos k g)) key) ≡ (is_some (graph_of (repo ∷ repos) key) || bytes_eq k key)
put_step key k repo repos g true e later =
    some_first (bytes_eq repo.0 key) g (graph_of repos key)
    ∙ absorbed (bytes_eq repo.0 key) (is_some (graph_of repos key)) (bytes_eq k key) (λ t. ap (λ (u : List ℕ). bytes_eq u key) (sym ((bytes_eq-Decides k repo.0).0 e)) ∙ t)
    ∙ ap (λ (t : Bool). t || bytes_eq k key) (sym (some_first (bytes_eq repo.0 key) repo.1 (graph_of repos key)))
  where
    absorbed : (a c d : Bool) → (d ≡ true → a ≡ true) → (a || c) ≡ ((a || c) || d)
    absorbed true c d h = refl
    absorbed false true d h = refl
    absorbed false false true h = absurd (let f : false ≡ true = h refl in cc)
    absorbed false false false h = refl
put_step key k repo repos g false e later =
    some_first (bytes_eq repo.0 key) repo.1 (graph_of (with_graph repos k g) key)
    ∙ ap (λ (t : Bool). bytes_eq repo.0 key || t) later
    ∙ either_assoc (bytes_eq repo.0 key) (is_some (graph_of repos key)) (bytes_eq k key)
    ∙ ap (λ (t : Bool). t || bytes_eq k key) (sym (some_first (bytes_eq repo.0 key) repo.1 (graph_of repos key)))
  where
    either_assoc : (a c d : Bool) → (a || (c || d)) ≡ ((a || c) || d)
    either_assoc true c d = refl
    either_assoc false c d = refl

put : (key k : List ℕ) (repos : List Repo) (g : List CommitRow) → is_some (graph_of (with_graph repos k g) key) ≡ (is_some (graph_of repos key) || bytes_eq k key)
put key k [] g = some_first (bytes_eq k key) g None ∙ or_none (bytes_eq k key)
  where
    or_none : (a : Bool) → (a || false) ≡ a
    or_none true = refl
    or_none false = refl
put key k (repo ∷ repos) g = put_step key k repo repos g (bytes_eq k repo.0) refl (put key k repos g)

put_all : (key : List ℕ) (repos gs : List Repo) → is_some (graph_of (with_graphs repos gs) key) ≡ (is_some (graph_of repos key) || has_repo gs key)
put_all key repos [] = or_none (is_some (graph_of repos key))
  where
    or_none : (a : Bool) → a ≡ (a || false)
    or_none true = refl
    or_none false = refl
put_all key repos (g ∷ gs) =
    put_all key (with_graph repos g.0 g.1) gs ∙ ap (λ (t : Bool). t || has_repo gs key) (put key g.0 repos g.1) ∙ either (is_some (graph_of repos key)) (bytes_eq g.0 key) (has_repo gs key)
  where
    either : (a c d : Bool) → ((a || c) || d) ≡ (a || (c || d))
    either true c d = refl
    either false c d = refl

-- a map that some graphs were put into has the repositories of these
pub put-has : (gs : List Repo) (key : List ℕ) → is_some (graph_of (with_graphs [] gs) key) ≡ has_repo gs key
put-has gs key = put_all key [] gs

-- where no repository is there no graph is
pub none-there : (repos : List Repo) → ((key : List ℕ) → is_some (graph_of repos key) ≡ false) → length repos ≡ 0
none-there [] h = refl
none-there (repo ∷ repos) h =
    let own : is_some (graph_of (repo ∷ repos) repo.0) ≡ true =
    some_first (bytes_eq repo.0 repo.0) repo.1 (graph_of repos repo.0) ∙ ap (λ (t : Bool). t || is_some (graph_of repos repo.0)) ((bytes_eq-Decides repo.0 repo.0).1 refl)
    in
    let clash : true ≡ false = sym own ∙ h repo.0 in
    absurd cc

-- ---- one more Grow

any_append : (xs ys : List (List CommitRow)) → is_any (xs ++ ys) ≡ (is_any xs || is_any ys)
any_append [] ys = refl
any_append (x ∷ xs) ys = refl

one_grow : (b : Bool) (rows : List CommitRow) → is_any (cond b (rows ∷ []) []) ≡ b
one_grow true rows = refl
one_grow false rows = refl

repo-append : (xs ys : List Repo) (key : List ℕ) → has_repo (xs ++ ys) key ≡ (has_repo xs key || has_repo ys key)
repo-append [] ys key = refl
repo-append (x ∷ xs) ys key = ap (λ (t : Bool). bytes_eq x.0 key || t) (repo-append xs ys key) ∙ either (bytes_eq x.0 key) (has_repo xs key) (has_repo ys key)
  where
    either : (a c d : Bool) → (a || (c || d)) ≡ ((a || c) || d)
    either true c d = refl
    either false c d = refl

pub grew-more : (came : List Past) (by : ℕ) (k : List ℕ) (rows g : List CommitRow) (gs : List Repo) → ((key : List ℕ) → has_repo gs key ≡ has_grow came key)
    → (key : List ℕ) → has_repo (gs ++ (k, g) ∷ []) key ≡ has_grow (came ++ Grow by k rows ∷ []) key
grew-more came by k rows g gs h key =
    repo-append gs ((k, g) ∷ []) key
    ∙ ap (λ (t : Bool). t || has_repo ((k, g) ∷ []) key) (h key)
    ∙ ap (λ (t : Bool). has_grow came key || t) (or_none (bytes_eq k key) ∙ sym (one_grow (bytes_eq k key) rows))
    ∙ sym (ap (λ (xs : List (List CommitRow)). is_any xs) (grown-append came (Grow by k rows ∷ []) key) ∙ any_append (grown came key) (grown (Grow by k rows ∷ []) key))
  where
    or_none : (a : Bool) → (a || false) ≡ a
    or_none true = refl
    or_none false = refl

pub grew-stays : (came : List Past) (e : Past) (gs : List Repo) → ((key : List ℕ) → grown (e ∷ []) key ≡ []) → ((key : List ℕ) → has_repo gs key ≡ has_grow came key) → (key : List ℕ) → has_repo gs key ≡ has_grow (came ++ e ∷ []) key
grew-stays came e gs none h key =
    h key ∙ or_none (has_grow came key)
    ∙ sym (ap (λ (xs : List (List CommitRow)). is_any xs) (grown-append came (e ∷ []) key) ∙ any_append (grown came key) (grown (e ∷ []) key) ∙ ap (λ (xs : List (List CommitRow)). has_grow came key || is_any xs) (none key))
  where
    or_none : (a : Bool) → a ≡ (a || false)
    or_none true = refl
    or_none false = refl
