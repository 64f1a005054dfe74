-- What later imports leave as it was.
use Rattle.std.proofs.Common.{◌≡◌, ℕ, Bool, true, false, ◌||◌, cond, List, [], ◌∷◌, ◌++◌, map, Option, Some, None, Ordering, Less, Equal, Greater, is_eq, bytes_eq, refl, sym, ap, subst, ◌∙◌}
use Rattle.std.specs.Prelude.{fold}
use Rattle.std.specs.List.{list_any}
use Rattle.std.specs.Ordering.{match_ordering}
use Rattle.std.proofs.lemmas.Slice.Eq.{bytes_eq-Decides}
use Rattle.osv_prim.specs.declared.oid.CommitRow.{CommitRow}
use Rattle.osv_prim.specs.Graphs.{joined}
use Rattle.osv_record.specs.Advisories.{Advisory}
use Rattle.osv_record.specs.Imports.{placed, records_from, has_id}
use Rattle.history.specs.declared.past.Past.{Past}
use Rattle.history.specs.declared.past.Past.TheVariants.{Import, Grow, Publish}
use Rattle.history.specs.Prefixes.{advisories, records, grown, graph, with_key, keys_from, keys, graphs}
use Rattle.history.specs.Lookups.{with_id, record_of, has_import, is_any, has_grow}
use Rattle.evaluate.specs.Hits.{graph_of}
use Rattle.std.proofs.lemmas.Map.Text.{is_eq-slice_cmp}
use Rattle.evaluate.proofs.Ascending.{by_id, one_id}
use Rattle.std.proofs.lemmas.Bool.{or_parts}
use Rattle.history.proofs.Prefixes.{records-go_on, graph-grown}

-- ---- advisories

picked : (a b : Bool) (x y z : Option Advisory) → (a ≡ true → b ≡ false) → cond a x (cond b y z) ≡ cond b y (cond a x z)
picked true true x y z h = absurd (let e = h refl in cc)
picked true false x y z h = refl
picked false true x y z h = refl
picked false false x y z h = refl

twice : (a : Bool) (x y z : Option Advisory) → cond a x (cond a y z) ≡ cond a x z
twice true x y z = refl
twice false x y z = refl

same_text : (a b : List ℕ) → bytes_eq a b ≡ true → a ≡ b
same_text a b e = (bytes_eq-Decides a b).0 e

false_from : (b : Bool) → (b ≡ true → ⊥) → b ≡ false
false_from true h = absurd (h refl)
false_from false h = refl

no_order : (a : List ℕ) → by_id a a ≡ Greater → ⊥
no_order a e = let t : is_eq (by_id a a) ≡ true = is_eq-slice_cmp a a ∙ (bytes_eq-Decides a a).1 refl in let f : is_eq (by_id a a) ≡ false = ap is_eq e in absurd cc

place_step : (id : List ℕ) (r x : Advisory) (xs : List Advisory) (o : Ordering) → by_id r.id x.id ≡ o → with_id id (placed r xs) ≡ cond (bytes_eq id r.id) (Some r) (with_id id xs)
    → with_id id (match_ordering o (r ∷ x ∷ xs) (r ∷ xs) (x ∷ placed r xs)) ≡ cond (bytes_eq id r.id) (Some r) (cond (bytes_eq id x.id) (Some x) (with_id id xs))
place_step id r x xs Less e later = refl
place_step id r x xs Equal e later =
    sym (twice (bytes_eq id r.id) (Some r) (Some x) (with_id id xs)) ∙ ap (λ (i : List ℕ). cond (bytes_eq id r.id) (Some r) (cond (bytes_eq id i) (Some x) (with_id id xs))) (one_id r.id x.id e)
place_step id r x xs Greater e later =
    ap (λ (o : Option Advisory). cond (bytes_eq id x.id) (Some x) o) later
    ∙ picked (bytes_eq id x.id) (bytes_eq id r.id) (Some x) (Some r) (with_id id xs)
    (λ t. false_from (bytes_eq id r.id) (λ s.
    let same : r.id ≡ x.id = sym (same_text id r.id s) ∙ same_text id x.id t in
    no_order x.id (subst (λ (i : List ℕ). by_id i x.id ≡ Greater) same e)))

pub with_id-placed : (id : List ℕ) (r : Advisory) (xs : List Advisory) → with_id id (placed r xs) ≡ cond (bytes_eq id r.id) (Some r) (with_id id xs)
with_id-placed id r [] = refl
with_id-placed id r (x ∷ xs) = place_step id r x xs (by_id r.id x.id) refl (with_id-placed id r xs)

-- an import counts for its id, and changes no other
pub record_of-push : (p : List Past) (by : ℕ) (r : Advisory) (id : List ℕ) → record_of (p ++ Import by r ∷ []) id ≡ cond (bytes_eq id r.id) (Some r) (record_of p id)
record_of-push p by r id = ap (with_id id) (records-go_on p (Import by r ∷ [])) ∙ with_id-placed id r (records p)

untouched : (id : List ℕ) (kept later : List Advisory) → has_id id later ≡ false → with_id id (records_from kept later) ≡ with_id id kept
untouched id kept [] none = refl
untouched id kept (r ∷ later) none =
    let d = or_parts (bytes_eq id r.id) (has_id id later) none in
    untouched id (placed r kept) later d.1 ∙ with_id-placed id r kept ∙ ap (λ (b : Bool). cond b (Some r) (with_id id kept)) d.0

-- where no import of an id came, the same one counts
pub record_of-stays : (b a : List Past) (id : List ℕ) → has_import a id ≡ false → record_of (b ++ a) id ≡ record_of b id
record_of-stays b a id none = ap (with_id id) (records-go_on b a) ∙ untouched id (records b) (advisories a) none

-- ---- graphs

none_of : (xs : List (List CommitRow)) → is_any xs ≡ false → xs ≡ []
none_of [] e = refl
none_of (x ∷ xs) e = absurd cc

-- where no Grow of a repository came, its graph is the same
pub graph-stays : (b a : List Past) (key : List ℕ) → has_grow a key ≡ false → graph (b ++ a) key ≡ graph b key
graph-stays b a key none = graph-grown b a key ∙ ap (λ (xs : List (List CommitRow)). fold joined (graph b key) xs) (none_of (grown a key) none)

found_step : (f : List ℕ → List CommitRow) (key u : List ℕ) (us : List (List ℕ)) (b : Bool) → bytes_eq u key ≡ b → graph_of (map (λ w. (w, f w)) us) key ≡ cond (list_any (λ w. bytes_eq w key) us) (Some (f key)) None
    → cond b (Some (f u)) (graph_of (map (λ w. (w, f w)) us) key) ≡ cond (b || list_any (λ w. bytes_eq w key) us) (Some (f key)) None
found_step f key u us true e later = ap (λ (w : List ℕ). Some (f w)) (same_text u key e)
found_step f key u us false e later = later

found : (f : List ℕ → List CommitRow) (key : List ℕ) (us : List (List ℕ)) → graph_of (map (λ w. (w, f w)) us) key ≡ cond (list_any (λ w. bytes_eq w key) us) (Some (f key)) None
found f key [] = refl
found f key (u ∷ us) = found_step f key u us (bytes_eq u key) refl (found f key us)

-- the graph that is found under a key
pub graph-found : (p : List Past) (key : List ℕ) → graph_of (graphs p) key ≡ cond (list_any (λ u. bytes_eq u key) (keys p)) (Some (graph p key)) None
graph-found p key = found (graph p) key (keys p)

-- ---- the repositories

absorbed : (p a : Bool) → (p || a) ≡ ((p || a) || p)
absorbed true a = refl
absorbed false true = refl
absorbed false false = refl

either_more : (a b c : Bool) → ((a || b) || c) ≡ (a || (b || c))
either_more true b c = refl
either_more false b c = refl

either_none : (a : Bool) → (a || false) ≡ a
either_none true = refl
either_none false = refl

alike : (x y : Bool) → (x ≡ true → y ≡ true) → (y ≡ true → x ≡ true) → x ≡ y
alike true y f g = sym (f refl)
alike false true f g = g refl
alike false false f g = refl

swapped : (a b : List ℕ) → bytes_eq a b ≡ bytes_eq b a
swapped a b =
    alike (bytes_eq a b) (bytes_eq b a) (λ t. (bytes_eq-Decides b a).1 (sym (same_text a b t))) (λ t. (bytes_eq-Decides a b).1 (sym (same_text b a t)))

listed_step : (k key u : List ℕ) (us : List (List ℕ)) (b : Bool) → bytes_eq key u ≡ b → list_any (bytes_eq k) (with_key us key) ≡ (list_any (bytes_eq k) us || bytes_eq k key)
    → list_any (bytes_eq k) (cond b (u ∷ us) (u ∷ with_key us key)) ≡ ((bytes_eq k u || list_any (bytes_eq k) us) || bytes_eq k key)
listed_step k key u us true e later =
    absorbed (bytes_eq k u) (list_any (bytes_eq k) us) ∙ ap (λ (w : List ℕ). (bytes_eq k u || list_any (bytes_eq k) us) || bytes_eq k w) (sym (same_text key u e))
listed_step k key u us false e later =
    ap (λ (t : Bool). bytes_eq k u || t) later ∙ sym (either_more (bytes_eq k u) (list_any (bytes_eq k) us) (bytes_eq k key))

listed : (k : List ℕ) (us : List (List ℕ)) (key : List ℕ) → list_any (bytes_eq k) (with_key us key) ≡ (list_any (bytes_eq k) us || bytes_eq k key)
listed k [] key = either_none (bytes_eq k key)
listed k (u ∷ us) key = listed_step k key u us (bytes_eq key u) refl (listed k us key)

any_step : (b : Bool) (x : List CommitRow) (xs : List (List CommitRow)) → (b || is_any xs) ≡ is_any (cond b (x ∷ xs) xs)
any_step true x xs = refl
any_step false x xs = refl

keys_from-exactly : (k : List ℕ) (us : List (List ℕ)) (p : List Past) → list_any (bytes_eq k) (keys_from us p) ≡ (list_any (bytes_eq k) us || has_grow p k)
keys_from-exactly k us [] = sym (either_none (list_any (bytes_eq k) us))
keys_from-exactly k us (Import by r ∷ p) = keys_from-exactly k us p
keys_from-exactly k us (Grow by key rows ∷ p) =
    keys_from-exactly k (with_key us key) p ∙ ap (λ (t : Bool). t || has_grow p k) (listed k us key)
    ∙ either_more (list_any (bytes_eq k) us) (bytes_eq k key) (has_grow p k)
    ∙ ap (λ (t : Bool). list_any (bytes_eq k) us || (t || has_grow p k)) (swapped k key)
    ∙ ap (λ (t : Bool). list_any (bytes_eq k) us || t) (any_step (bytes_eq key k) rows (grown p k))
keys_from-exactly k us (Publish by upto ∷ p) = keys_from-exactly k us p

-- a repository is listed exactly where it has a Grow
pub keys-exactly : (p : List Past) (key : List ℕ) → list_any (bytes_eq key) (keys p) ≡ has_grow p key
keys-exactly p key = keys_from-exactly key [] p

turned_any : (key : List ℕ) (us : List (List ℕ)) → list_any (λ u. bytes_eq u key) us ≡ list_any (bytes_eq key) us
turned_any key [] = refl
turned_any key (u ∷ us) = ap (λ (t : Bool). t || list_any (λ w. bytes_eq w key) us) (swapped u key) ∙ ap (λ (t : Bool). bytes_eq key u || t) (turned_any key us)

pub graph-found_exactly : (p : List Past) (key : List ℕ) → graph_of (graphs p) key ≡ cond (has_grow p key) (Some (graph p key)) None
graph-found_exactly p key = graph-found p key ∙ ap (λ (t : Bool). cond t (Some (graph p key)) None) (turned_any key (keys p) ∙ keys-exactly p key)
