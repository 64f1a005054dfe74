-- What imports come to when more of them come.
use Rattle.std.proofs.Common.{◌≡◌, ℕ, ◌+◌, ◌≤◌, Bool, true, false, cond, List, [], ◌∷◌, ◌++◌, length, map, take, refl, sym, ap, subst, ◌∙◌, append_assoc, arith, length-append, bytes_eq}
use mathlib.Core.List.{IsPrefix}
use Rattle.std.proofs.lemmas.Bool.{or_parts, or_from}
use Rattle.std.specs.Prelude.{fold}
use Rattle.std.specs.List.{list_any, AllByRecursion}
use Rattle.std.proofs.lemmas.List.{append-nil, take-append-le}
use Rattle.std.proofs.lemmas.List.Sums.{fold-append}
use Rattle.std.proofs.lemmas.Slice.Eq.{bytes_eq-Decides}
use Rattle.osv_prim.specs.declared.oid.CommitRow.{CommitRow}
use Rattle.osv_prim.specs.Graphs.{joined, with_row}
use Rattle.osv_record.specs.Advisories.{Advisory}
use Rattle.osv_record.specs.Imports as counting
use Rattle.history.specs.declared.past.Past.{Past}
use Rattle.history.specs.declared.past.Past.TheVariants.{Import, Grow, Publish}
use Rattle.history.specs.Entries.{History, imports, snap, upto_of, added}
use Rattle.evaluate.specs.Hits.{Repo}
use Rattle.history.specs.Prefixes.{advisories, records, grown, rows_of, grows, graph, graph_at, with_key, keys_from, keys, graphs, with_rows, graphs_from}
use Rattle.history.proofs.Entries.{front-refl, front-trans, snap-added}
use Rattle.history.proofs.Records.{records-more, records-both, records-merged}

-- ---- advisories

pub advisories-append : (a b : List Past) → advisories (a ++ b) ≡ advisories a ++ advisories b
advisories-append [] b = refl
advisories-append (Import by r ∷ p) b = ap (λ (xs : List Advisory). r ∷ xs) (advisories-append p b)
advisories-append (Grow by key rows ∷ p) b = advisories-append p b
advisories-append (Publish by upto ∷ p) b = advisories-append p b

pub advisories-imports : (h : History) → advisories (imports h) ≡ advisories h
advisories-imports [] = refl
advisories-imports (Import by r ∷ h) = ap (λ (xs : List Advisory). r ∷ xs) (advisories-imports h)
advisories-imports (Grow by key rows ∷ h) = advisories-imports h
advisories-imports (Publish by upto ∷ h) = advisories-imports h

pub records-go_on : (b a : List Past) → records (b ++ a) ≡ counting.records_from (records b) (advisories a)
records-go_on b a = ap (λ (xs : List Advisory). counting.records xs) (advisories-append b a) ∙ records-more (advisories b) (advisories a)

pub records-of_both : (b a : List Past) → records (b ++ a) ≡ counting.records (records b ++ advisories a)
records-of_both b a = ap (λ (xs : List Advisory). counting.records xs) (advisories-append b a) ∙ records-both (advisories b) (advisories a)

pub records-of_parts : (b a : List Past) → records (b ++ a) ≡ counting.records (records b ++ records a)
records-of_parts b a = ap (λ (xs : List Advisory). counting.records xs) (advisories-append b a) ∙ records-merged (advisories b) (advisories a)

-- ---- the graph of a repository

grown_step : (b : Bool) (x : List CommitRow) (xs ys : List (List CommitRow)) → cond b (x ∷ (xs ++ ys)) (xs ++ ys) ≡ cond b (x ∷ xs) xs ++ ys
grown_step true x xs ys = refl
grown_step false x xs ys = refl

pub grown-append : (a b : List Past) (key : List ℕ) → grown (a ++ b) key ≡ grown a key ++ grown b key
grown-append [] b key = refl
grown-append (Import by r ∷ p) b key = grown-append p b key
grown-append (Grow by u rows ∷ p) b key =
    ap (λ (rest : List (List CommitRow)). cond (bytes_eq u key) (rows ∷ rest) rest) (grown-append p b key) ∙ grown_step (bytes_eq u key) rows (grown p key) (grown b key)
grown-append (Publish by upto ∷ p) b key = grown-append p b key

pub grown-imports : (h : History) (key : List ℕ) → grown (imports h) key ≡ grown h key
grown-imports [] key = refl
grown-imports (Import by r ∷ h) key = grown-imports h key
grown-imports (Grow by u rows ∷ h) key = ap (λ (rest : List (List CommitRow)). cond (bytes_eq u key) (rows ∷ rest) rest) (grown-imports h key)
grown-imports (Publish by upto ∷ h) key = grown-imports h key

pub grows-append : (a b : List Past) (key : List ℕ) → grows (a ++ b) key ≡ grows a key + grows b key
grows-append a b key = ap (λ (xs : List (List CommitRow)). length xs) (grown-append a b key) ∙ length-append (grown a key) (grown b key)

-- the first so many Grows stay
pub grown-stays : (a b : List Past) (key : List ℕ) (version : ℕ) → version ≤ grows a key → take version (grown (a ++ b) key) ≡ take version (grown a key)
grown-stays a b key version le = ap (take version) (grown-append a b key) ∙ take-append-le version (grown a key) (grown b key) le

pub graph_at-stays : (a b : List Past) (key : List ℕ) (version : ℕ) → version ≤ grows a key → graph_at version (a ++ b) key ≡ graph_at version a key
graph_at-stays a b key version le = ap (λ (xs : List (List CommitRow)). fold joined [] xs) (grown-stays a b key version le)

rows_step : (b : Bool) (g : List CommitRow) (rows : List CommitRow) (rest : List (List CommitRow)) (more : List CommitRow)
    → fold joined g rest ≡ joined g more → fold joined (joined g rows) rest ≡ joined (joined g rows) more → fold joined g (cond b (rows ∷ rest) rest) ≡ joined g (cond b (rows ++ more) more)
rows_step true g rows rest more other this = this ∙ sym (fold-append with_row g rows more)
rows_step false g rows rest more other this = other

pub joined-grown : (g : List CommitRow) (p : List Past) (key : List ℕ) → fold joined g (grown p key) ≡ joined g (rows_of p key)
joined-grown g [] key = refl
joined-grown g (Import by r ∷ p) key = joined-grown g p key
joined-grown g (Grow by u rows ∷ p) key = rows_step (bytes_eq u key) g rows (grown p key) (rows_of p key) (joined-grown g p key) (joined-grown (joined g rows) p key)
joined-grown g (Publish by upto ∷ p) key = joined-grown g p key

pub graph-is : (p : List Past) (key : List ℕ) → graph p key ≡ joined [] (rows_of p key)
graph-is p key = joined-grown [] p key

pub graph-grown : (b a : List Past) (key : List ℕ) → graph (b ++ a) key ≡ fold joined (graph b key) (grown a key)
graph-grown b a key = ap (λ (xs : List (List CommitRow)). fold joined [] xs) (grown-append b a key) ∙ fold-append joined [] (grown b key) (grown a key)

pub graph-goes_on : (b a : List Past) (key : List ℕ) → graph (b ++ a) key ≡ joined (graph b key) (rows_of a key)
graph-goes_on b a key = graph-grown b a key ∙ joined-grown (graph b key) a key

-- ---- the repositories

pub keys_from-append : (us : List (List ℕ)) (a b : List Past) → keys_from us (a ++ b) ≡ keys_from (keys_from us a) b
keys_from-append us [] b = refl
keys_from-append us (Import by r ∷ p) b = keys_from-append us p b
keys_from-append us (Grow by key rows ∷ p) b = keys_from-append (with_key us key) p b
keys_from-append us (Publish by upto ∷ p) b = keys_from-append us p b

key_front : (b : Bool) (u : List ℕ) (us more : List (List ℕ)) → IsPrefix us more → IsPrefix (u ∷ us) (cond b (u ∷ us) (u ∷ more))
key_front true u us more f = front-refl (u ∷ us)
key_front false u us more f = (f.0, ap (λ (xs : List (List ℕ)). u ∷ xs) f.1)

with_key-front : (us : List (List ℕ)) (key : List ℕ) → IsPrefix us (with_key us key)
with_key-front [] key = (key ∷ [], refl)
with_key-front (u ∷ us) key = key_front (bytes_eq key u) u us (with_key us key) (with_key-front us key)

pub keys_from-front : (us : List (List ℕ)) (p : List Past) → IsPrefix us (keys_from us p)
keys_from-front us [] = front-refl us
keys_from-front us (Import by r ∷ p) = keys_from-front us p
keys_from-front us (Grow by key rows ∷ p) = front-trans us (with_key us key) (keys_from (with_key us key) p) (with_key-front us key) (keys_from-front (with_key us key) p)
keys_from-front us (Publish by upto ∷ p) = keys_from-front us p

pub keys-front : (a b : List Past) → IsPrefix (keys a) (keys (a ++ b))
keys-front a b = subst (λ (us : List (List ℕ)). IsPrefix (keys a) us) (sym (keys_from-append [] a b)) (keys_from-front (keys a) b)

-- keys are apart
abbrev pub Apart : List (List ℕ) → Type 0
Apart [] = Unit {0}
Apart (u ∷ us) = AllByRecursion (λ w. bytes_eq u w ≡ false) us × Apart us

all_step : (b : Bool) (w u : List ℕ) (us more : List (List ℕ)) → bytes_eq w u ≡ false → AllByRecursion (λ x. bytes_eq w x ≡ false) us → AllByRecursion (λ x. bytes_eq w x ≡ false) more
    → AllByRecursion (λ x. bytes_eq w x ≡ false) (cond b (u ∷ us) (u ∷ more))
all_step true w u us more e p q = (e, p)
all_step false w u us more e p q = (e, q)

all_with_key : (w : List ℕ) (us : List (List ℕ)) (key : List ℕ) → bytes_eq w key ≡ false → AllByRecursion (λ x. bytes_eq w x ≡ false) us → AllByRecursion (λ x. bytes_eq w x ≡ false) (with_key us key)
all_with_key w [] key e p = (e, tt)
all_with_key w (u ∷ us) key e p = all_step (bytes_eq key u) w u us (with_key us key) p.0 p.1 (all_with_key w us key e p.1)

same_key : (a b : List ℕ) → bytes_eq a b ≡ true → a ≡ b
same_key a b e = (bytes_eq-Decides a b).0 e

pub itself : (a : List ℕ) → bytes_eq a a ≡ true
itself a = (bytes_eq-Decides a a).1 refl

pub false_from : (b : Bool) → (b ≡ true → ⊥) → b ≡ false
false_from true h = absurd (h refl)
false_from false h = refl

turned_apart : (a b : List ℕ) → bytes_eq a b ≡ false → bytes_eq b a ≡ false
turned_apart a b e =
    false_from (bytes_eq b a) (λ t. let s : bytes_eq a b ≡ true = subst (λ (x : List ℕ). bytes_eq x b ≡ true) (same_key b a t) (itself b) in absurd cc)

apart_step : (key u : List ℕ) (us : List (List ℕ)) (b : Bool) → bytes_eq key u ≡ b → Apart (u ∷ us) → Apart (with_key us key) → Apart (cond b (u ∷ us) (u ∷ with_key us key))
apart_step key u us true e p q = p
apart_step key u us false e p q = (all_with_key u us key (turned_apart key u e) p.0, q)

with_key-apart : (us : List (List ℕ)) (key : List ℕ) → Apart us → Apart (with_key us key)
with_key-apart [] key p = (tt, tt)
with_key-apart (u ∷ us) key p = apart_step key u us (bytes_eq key u) refl p (with_key-apart us key p.1)

pub keys-apart : (us : List (List ℕ)) (p : List Past) → Apart us → Apart (keys_from us p)
keys-apart us [] h = h
keys-apart us (Import by r ∷ p) h = keys-apart us p h
keys-apart us (Grow by key rows ∷ p) h = keys-apart (with_key us key) p (with_key-apart us key h)
keys-apart us (Publish by upto ∷ p) h = keys-apart us p h

-- a key that isn't there has no Grow
absent_step : (k key u : List ℕ) (us : List (List ℕ)) (b : Bool) → bytes_eq key u ≡ b → list_any (bytes_eq k) (cond b (u ∷ us) (u ∷ with_key us key)) ≡ false
    → (list_any (bytes_eq k) (with_key us key) ≡ false → (list_any (bytes_eq k) us ≡ false) × (bytes_eq key k ≡ false))
    → (list_any (bytes_eq k) (u ∷ us) ≡ false) × (bytes_eq key k ≡ false)
absent_step k key u us true e none later =
    let d = or_parts (bytes_eq k u) (list_any (bytes_eq k) us) none in
    (none, subst (λ (x : List ℕ). bytes_eq x k ≡ false) (sym (same_key key u e)) (turned_apart k u d.0))
absent_step k key u us false e none later =
    let d = or_parts (bytes_eq k u) (list_any (bytes_eq k) (with_key us key)) none in
    let l = later d.1 in
    (or_from (bytes_eq k u) (list_any (bytes_eq k) us) d.0 l.0, l.1)

absent_key : (k : List ℕ) (us : List (List ℕ)) (key : List ℕ) → list_any (bytes_eq k) (with_key us key) ≡ false → (list_any (bytes_eq k) us ≡ false) × (bytes_eq key k ≡ false)
absent_key k [] key none = (refl, turned_apart k key (or_parts (bytes_eq k key) false none).0)
absent_key k (u ∷ us) key none = absent_step k key u us (bytes_eq key u) refl none (absent_key k us key)

pub absent : (k : List ℕ) (us : List (List ℕ)) (p : List Past) → list_any (bytes_eq k) (keys_from us p) ≡ false → (list_any (bytes_eq k) us ≡ false) × (grown p k ≡ [])
absent k us [] none = (none, refl)
absent k us (Import by r ∷ p) none = absent k us p none
absent k us (Grow by key rows ∷ p) none =
    let l = absent k (with_key us key) p none in
    let m = absent_key k us key l.0 in
    (m.0, rw m.1 l.1)
absent k us (Publish by upto ∷ p) none = absent k us p none

-- ---- the repositories with their graphs

abbrev paired : (List ℕ → List CommitRow) → List ℕ → Repo
paired f u = (u, f u)

-- a function of keys that changes at one of them
module _ (f : List ℕ → List CommitRow) (k : List ℕ) (rows : List CommitRow) where
  abbrev pub changed : List ℕ → List CommitRow
  changed u = cond (bytes_eq k u) (joined (f u) rows) (f u)

  others : (us : List (List ℕ)) → AllByRecursion (λ w. bytes_eq k w ≡ false) us → map (paired changed) us ≡ map (paired f) us
  others [] p = refl
  others (u ∷ us) p = rw p.0 (ap (λ (xs : List Repo). paired f u ∷ xs) (others us p.1))

  changed_step : (u : List ℕ) (us : List (List ℕ)) (b : Bool) → bytes_eq k u ≡ b → Apart (u ∷ us)
      → (b ≡ false → map (paired changed) (with_key us k) ≡ with_rows (map (paired f) us) k rows)
      → map (paired changed) (cond b (u ∷ us) (u ∷ with_key us k)) ≡ cond b ((u, joined (f u) rows) ∷ map (paired f) us) (paired f u ∷ with_rows (map (paired f) us) k rows)
  changed_step u us true e p later =
      ap (λ (b : Bool). (u, cond b (joined (f u) rows) (f u)) ∷ map (paired changed) us) e
      ∙ ap (λ (xs : List Repo). (u, joined (f u) rows) ∷ xs) (others us (subst (λ (x : List ℕ). AllByRecursion (λ w. bytes_eq x w ≡ false) us) (sym (same_key k u e)) p.0))
  changed_step u us false e p later =
      ap (λ (b : Bool). (u, cond b (joined (f u) rows) (f u)) ∷ map (paired changed) (with_key us k)) e ∙ ap (λ (xs : List Repo). paired f u ∷ xs) (later refl)

  pub changed-at : (us : List (List ℕ)) → Apart us → (list_any (bytes_eq k) us ≡ false → f k ≡ []) → map (paired changed) (with_key us k) ≡ with_rows (map (paired f) us) k rows
  changed-at [] p none =
      ap (λ (b : Bool). (k, cond b (joined (f k) rows) (f k)) ∷ []) (itself k) ∙ ap (λ (g : List CommitRow). (k, joined g rows) ∷ []) (none refl)
  changed-at (u ∷ us) p none =
      changed_step u us (bytes_eq k u) refl p (λ e. changed-at us p.1 (λ n. none (or_from (bytes_eq k u) (list_any (bytes_eq k) us) e n)))

graph_step : (b : Bool) (g rows : List CommitRow) → fold joined g (cond b (rows ∷ []) []) ≡ cond b (joined g rows) g
graph_step true g rows = refl
graph_step false g rows = refl

-- the graph of a repository after one more Grow
pub graph-push : (p : List Past) (by : ℕ) (k : List ℕ) (rows : List CommitRow) (u : List ℕ) → graph (p ++ Grow by k rows ∷ []) u ≡ changed (graph p) k rows u
graph-push p by k rows u = graph-grown p (Grow by k rows ∷ []) u ∙ graph_step (bytes_eq k u) (graph p u) rows

map-same : (f g : List ℕ → List CommitRow) (us : List (List ℕ)) → ((u : List ℕ) → f u ≡ g u) → map (paired f) us ≡ map (paired g) us
map-same f g [] h = refl
map-same f g (u ∷ us) h = ap (λ (x : List CommitRow). (u, x) ∷ map (paired f) us) (h u) ∙ ap (λ (xs : List Repo). paired g u ∷ xs) (map-same f g us h)

graphs-same : (p q : List Past) → keys p ≡ keys q → ((u : List ℕ) → graph p u ≡ graph q u) → graphs p ≡ graphs q
graphs-same p q e h = ap (λ (us : List (List ℕ)). map (paired (graph p)) us) e ∙ map-same (graph p) (graph q) (keys q) h

pub graphs-push : (p : List Past) (by : ℕ) (k : List ℕ) (rows : List CommitRow) → graphs (p ++ Grow by k rows ∷ []) ≡ with_rows (graphs p) k rows
graphs-push p by k rows =
    ap (λ (us : List (List ℕ)). map (paired (graph (p ++ Grow by k rows ∷ []))) us) (keys_from-append [] p (Grow by k rows ∷ []))
    ∙ map-same (graph (p ++ Grow by k rows ∷ [])) (changed (graph p) k rows) (with_key (keys p) k) (graph-push p by k rows)
    ∙ changed-at (graph p) k rows (keys p) (keys-apart [] p tt) (λ none. ap (λ (xs : List (List CommitRow)). fold joined [] xs) (absent k [] p none).1)

one_by_one : (b : List Past) (e : Past) (a : List Past) → (b ++ e ∷ []) ++ a ≡ b ++ e ∷ a
one_by_one b e a = append_assoc b (e ∷ []) a

-- graphs of a front, and then the Grows of what came after it
pub graphs-go_on : (b a : List Past) → graphs (b ++ a) ≡ graphs_from (graphs b) a
graphs-go_on b [] = ap (λ (p : List Past). graphs p) (append-nil b)
graphs-go_on b (Import by r ∷ a) =
    ap (λ (p : List Past). graphs p) (sym (one_by_one b (Import by r) a)) ∙ graphs-go_on (b ++ Import by r ∷ []) a
    ∙ ap (λ (gs : List Repo). graphs_from gs a) (graphs-same (b ++ Import by r ∷ []) b (keys_from-append [] b (Import by r ∷ [])) (λ u. graph-grown b (Import by r ∷ []) u))
graphs-go_on b (Grow by key rows ∷ a) =
    ap (λ (p : List Past). graphs p) (sym (one_by_one b (Grow by key rows) a)) ∙ graphs-go_on (b ++ Grow by key rows ∷ []) a
    ∙ ap (λ (gs : List Repo). graphs_from gs a) (graphs-push b by key rows)
graphs-go_on b (Publish by upto ∷ a) =
    ap (λ (p : List Past). graphs p) (sym (one_by_one b (Publish by upto) a)) ∙ graphs-go_on (b ++ Publish by upto ∷ []) a
    ∙ ap (λ (gs : List Repo). graphs_from gs a) (graphs-same (b ++ Publish by upto ∷ []) b (keys_from-append [] b (Publish by upto ∷ [])) (λ u. graph-grown b (Publish by upto ∷ []) u))

-- ---- a history, and its imports alone

pub graph-imports : (h : History) (key : List ℕ) → graph (imports h) key ≡ graph h key
graph-imports h key = ap (λ (xs : List (List CommitRow)). fold joined [] xs) (grown-imports h key)

pub keys_from-imports : (us : List (List ℕ)) (h : History) → keys_from us (imports h) ≡ keys_from us h
keys_from-imports us [] = refl
keys_from-imports us (Import by r ∷ h) = keys_from-imports us h
keys_from-imports us (Grow by key rows ∷ h) = keys_from-imports (with_key us key) h
keys_from-imports us (Publish by upto ∷ h) = keys_from-imports us h

pub records-imports : (h : History) → records (imports h) ≡ records h
records-imports h = ap (λ (xs : List Advisory). counting.records xs) (advisories-imports h)

pub graphs-imports : (h : History) → graphs (imports h) ≡ graphs h
graphs-imports h = graphs-same (imports h) h (keys_from-imports [] h) (graph-imports h)

-- ---- Grows at a front

pub grows-front : (a h : List Past) (key : List ℕ) → IsPrefix a h → grows a key ≤ grows h key
grows-front a h key f = let e : grows h key ≡ grows a key + grows f.0 key = ap (λ (p : List Past). grows p key) (sym f.1) ∙ grows-append a f.0 key in omega (arith, e)

pub grown-at_front : (a h : List Past) (key : List ℕ) (version : ℕ) → IsPrefix a h → version ≤ grows a key → take version (grown h key) ≡ take version (grown a key)
grown-at_front a h key version f le = ap (λ (p : List Past). take version (grown p key)) (sym f.1) ∙ grown-stays a f.0 key version le

-- ---- a snapshot, and what was added to it

module _ (h : History) (s upto : ℕ) (le : upto_of h s ≤ upto) where
  pub records-changed : records (take upto (imports h)) ≡ counting.records_from (records (snap h s)) (advisories (added h s upto))
  records-changed = ap (λ (p : List Past). records p) (snap-added h s upto le) ∙ records-go_on (snap h s) (added h s upto)

  pub graph-changed : (key : List ℕ) → graph (take upto (imports h)) key ≡ joined (graph (snap h s) key) (rows_of (added h s upto) key)
  graph-changed key = ap (λ (p : List Past). graph p key) (snap-added h s upto le) ∙ graph-goes_on (snap h s) (added h s upto) key

  pub graphs-changed : graphs (take upto (imports h)) ≡ graphs_from (graphs (snap h s)) (added h s upto)
  graphs-changed = ap (λ (p : List Past). graphs p) (snap-added h s upto le) ∙ graphs-go_on (snap h s) (added h s upto)
