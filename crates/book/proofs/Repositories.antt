-- What is kept of repositories.
use Rattle.std.proofs.Common.{◌≡◌, ℕ, ◌+◌, ◌-◌, ◌≤◌, Bool, true, false, cond, List, [], ◌∷◌, ◌++◌, length, fold, drop, refl, sym, ap, subst, ◌∙◌, arith}
use Rattle.std.specs.Prelude.{Option, Some, None}
use Rattle.std.specs.Str.{bytes_eq}
use Rattle.std.specs.Arc.{arc_value}
use Rattle.std.specs.declared.sync.Arc.{Arc}
use Rattle.std.specs.HashMap.{HashMap, get}
use Rattle.std.specs.Map.{lookup}
use mathlib.Core.List.{IsPrefix}
use Rattle.std.proofs.lemmas.List.{nil_from_length}
use Rattle.std.proofs.lemmas.Slice.Eq.{bytes_eq-Decides}
use Rattle.osv_prim.specs.declared.oid.CommitRow.{CommitRow}
use Rattle.osv_prim.specs.Graphs.{joined}
use Rattle.osv_prim.specs.Graphs as of_rows
use Rattle.settings.specs.declared.Settings.{Settings}
use Rattle.turn_lock.specs.declared.note.Note.{Note}
use Rattle.commit_graph.specs.Linked.{weight_of}
use Rattle.history.specs.declared.past.Past.{Past}
use Rattle.history.specs.declared.past.Past.TheVariants.{Grow}
use Rattle.history.specs.Entries.{History, weight, entry_weight}
use Rattle.history.specs.Prefixes.{grown, grows, graph}
use Rattle.history.specs.Conditions.{IsOfVersion}
use Rattle.history.proofs.Prefixes.{grows-append, graph-grown}
use Rattle.history.proofs.Conditions.{version-now}
use Rattle.book_model.specs.Steps.{grown_by}
use Rattle.snapshot.specs.declared.snapshot.Snapshot.{Snapshot}
use Rattle.book.specs.declared.entry.Entry.{Entry}
use Rattle.book.specs.declared.build.Open.{Open}
use Rattle.book.specs.declared.ledger.Counts.{Counts}
use Rattle.book.specs.declared.repos.Repo.{Repo}
use Rattle.book.specs.Entries.{history_of, IsWhole, AreWhole}
use Rattle.book.specs.Repos.{IsRepo, AreRepos}
use Rattle.book.specs.Books.{IsBook}
use Rattle.book.proofs.Growing.{graph-weight, beyond-weight, grown-whole, whole-push}

-- ---- what is found

pub repos-empty : {S : Type 0} (m : HashMap (List ℕ) Repo S) → m.entries ≡ [] → AreRepos [] (get bytes_eq m)
repos-empty m e = λ key. subst (λ (es : List (List ℕ × Repo)). IsRepo [] key (lookup (bytes_eq key) es)) (sym e) refl

-- of a repository without a Grow
pub none_kept : (h now : History) (key : List ℕ) (found : List ℕ → Option Repo) → h ≡ now → AreRepos h found → found key ≡ None → (grows now key ≡ 0) × (graph now key ≡ [])
none_kept h now key found same r none =
    let zero : grows h key ≡ 0 = subst (λ (o : Option Repo). IsRepo h key o) none (r key) in
    let empty : grown h key ≡ [] = nil_from_length (grown h key) zero in
    subst (λ (x : History). (grows x key ≡ 0) × (graph x key ≡ [])) same (zero, ap (λ (xs : List (List CommitRow)). fold joined [] xs) empty)

-- and of one with some
pub one_kept : (h now : History) (key : List ℕ) (found : List ℕ → Option Repo) (repo : Repo) → h ≡ now → AreRepos h found → found key ≡ Some repo → (repo.grows ≡ grows now key) × (arc_value repo.graph ≡ graph now key)
one_kept h now key found repo same r some =
    subst (λ (x : History). (repo.grows ≡ grows x key) × (arc_value repo.graph ≡ graph x key)) same (subst (λ (o : Option Repo). IsRepo h key o) some (r key))

-- ---- entries that bring no rows

same_repo : (h more : History) (key : List ℕ) (found : Option Repo) → grown more key ≡ [] → IsRepo h key found → IsRepo (h ++ more) key found
same_repo h more key None none r =
    let e : grows (h ++ more) key ≡ grows h key + grows more key = grows-append h more key in
    let z : grows more key ≡ 0 = ap (λ (xs : List (List CommitRow)). length xs) none in
    omega (arith, e, z, r)
same_repo h more key (Some repo) none r =
    let e : grows (h ++ more) key ≡ grows h key + grows more key = grows-append h more key in
    let z : grows more key ≡ 0 = ap (λ (xs : List (List CommitRow)). length xs) none in
    let same : graph (h ++ more) key ≡ graph h key = graph-grown h more key ∙ ap (λ (xs : List (List CommitRow)). fold joined (graph h key) xs) none in
    (omega (arith, e, z, r.0), r.1 ∙ sym same)

pub repos-pushed : (h now : History) (e : Past) (found : List ℕ → Option Repo) → now ≡ h ++ e ∷ [] → ((key : List ℕ) → grown (e ∷ []) key ≡ []) → AreRepos h found → AreRepos now found
repos-pushed h now e found is none r = λ key. subst (λ (x : History). IsRepo x key (found key)) (sym is) (same_repo h (e ∷ []) key (found key) (none key) (r key))

-- the same by each key
pub repos-same : (h now : History) (found left : List ℕ → Option Repo) → now ≡ h → ((key : List ℕ) → left key ≡ found key) → AreRepos h found → AreRepos now left
repos-same h now found left is same r = λ key. subst (λ (x : History). IsRepo x key (left key)) (sym is) (subst (λ (o : Option Repo). IsRepo h key o) (sym (same key)) (r key))

pub whole-pushed : (now mid es : List Entry) (e : Entry) → now ≡ mid ++ e ∷ [] → mid ≡ es → IsWhole (history_of es) e → AreWhole [] es → AreWhole [] now
whole-pushed now mid es e is same here a =
    subst (λ (xs : List Entry). AreWhole [] xs) (ap (λ (xs : List Entry). xs ++ e ∷ []) (sym same) ∙ sym is) (whole-push [] es e a here)

-- ---- one Grow more

repo_step : (b : Bool) (h : History) (by : ℕ) (key q : List ℕ) (rows : List CommitRow) (repo : Repo) (found : Option Repo) → bytes_eq key q ≡ b
    → repo.grows ≡ grows h key + 1 → arc_value repo.graph ≡ graph (h ++ Grow by key rows ∷ []) key → IsRepo h q found → IsRepo (h ++ Grow by key rows ∷ []) q (cond b (Some repo) found)
repo_step true h by key q rows repo found is count whole r =
    let same : key ≡ q = (bytes_eq-Decides key q).0 is in
    let one : grown (Grow by key rows ∷ []) key ≡ rows ∷ [] = ap (λ (b : Bool). cond b (rows ∷ []) []) ((bytes_eq-Decides key key).1 refl) in
    let e : grows (h ++ Grow by key rows ∷ []) key ≡ grows h key + grows (Grow by key rows ∷ []) key = grows-append h (Grow by key rows ∷ []) key in
    let z : grows (Grow by key rows ∷ []) key ≡ 1 = ap (λ (xs : List (List CommitRow)). length xs) one in
    subst (λ (k : List ℕ). IsRepo (h ++ Grow by key rows ∷ []) k (Some repo)) same (omega (arith, e, z, count), whole)
repo_step false h by key q rows repo found is count whole r =
    same_repo h (Grow by key rows ∷ []) q found (ap (λ (b : Bool). cond b (rows ∷ []) []) is) r

module _ (es : List Entry) (h : History) (by : ℕ) (key : List ℕ) (version : ℕ) (rows : List CommitRow) (same : history_of es ≡ h) (is : version ≡ grows h key) (of_version : IsOfVersion key version rows h) where
  begins : IsPrefix (graph h key) rows
  begins = version-now key rows h (subst (λ (n : ℕ). IsOfVersion key n rows h) is of_version)

  -- what is kept of repositories then
  pub repos-grown : (now : List Entry) (repo : Repo) (found left : List ℕ → Option Repo) → history_of now ≡ history_of es ++ grown_by by key rows h ∷ [] → of_rows.IsLegal rows
      → ((q : List ℕ) → left q ≡ cond (bytes_eq key q) (Some repo) (found q)) → repo.grows ≡ grows h key + 1 → arc_value repo.graph ≡ rows → AreRepos (history_of es) found → AreRepos (history_of now) left
  repos-grown now repo found left pushed legal put count shared r = λ q.
      let e : Past = grown_by by key rows h in
      let was : IsRepo h q (found q) = subst (λ (x : History). IsRepo x q (found q)) same (r q) in
      let whole : arc_value repo.graph ≡ graph (h ++ grown_by by key rows h ∷ []) key = shared ∙ sym (grown-whole h by key rows legal begins) in
      let now_is : h ++ grown_by by key rows h ∷ [] ≡ history_of now = sym (pushed ∙ ap (λ (x : History). x ++ grown_by by key rows h ∷ []) same) in
      subst (λ (x : History). IsRepo x q (left q)) now_is
      (subst (λ (o : Option Repo). IsRepo (h ++ grown_by by key rows h ∷ []) q o) (sym (put q)) (repo_step (bytes_eq key q) h by key q (drop (length (graph h key)) rows) repo (found q) refl count whole was))

  -- and of entries
  pub whole-grown : {Z : Type 0} (shared : Arc (List CommitRow) Z) (from : ℕ) → from ≡ length (graph h key) → arc_value shared ≡ rows → of_rows.IsLegal rows
      → arc_value shared ≡ graph (history_of es ++ Grow by key (drop from (arc_value shared)) ∷ []) key
  whole-grown shared from at value legal =
      value ∙ sym (grown-whole h by key rows legal begins)
      ∙ ap (λ (n : ℕ). graph (h ++ Grow by key (drop n rows) ∷ []) key) (sym at)
      ∙ ap (λ (xs : List CommitRow). graph (h ++ Grow by key (drop from xs) ∷ []) key) (sym value)
      ∙ ap (λ (x : History). graph (x ++ Grow by key (drop from (arc_value shared)) ∷ []) key) (sym same)

  -- ---- what the Grow weighs

  entry_is : entry_weight (grown_by by key rows h) ≡ 64 + length key + (weight_of rows - weight_of (graph h key))
  entry_is = ap (λ (n : ℕ). 64 + length key + n) (beyond-weight (graph h key) rows begins)

  pub grow-most : (before w : ℕ) → before ≡ weight_of (graph h key) → w ≤ 64 + length key + (weight_of rows - before) → w ≤ entry_weight (grown_by by key rows h)
  grow-most before w at le =
      let e : entry_weight (grown_by by key rows h) ≡ 64 + length key + (weight_of rows - weight_of (graph h key)) = entry_is in
      let k : 64 + length key + (weight_of rows - before) ≡ 64 + length key + (weight_of rows - weight_of (graph h key)) = ap (λ (n : ℕ). 64 + length key + (weight_of rows - n)) at in
      omega (arith, e, k, le)

  pub grow-exact : {settings : Settings} {callers : ℕ} {build : Option Open} {note : Note} {counts : Counts} {kept : List Snapshot} (before w : ℕ) → before ≡ weight_of (graph h key)
      → (before ≤ 4294967296 → w ≤ 4294967296 → w ≡ 64 + length key + (weight_of rows - before)) → w ≤ settings.weight - counts.used → IsBook settings (history_of es) callers build note counts kept
      → w ≡ entry_weight (grown_by by key rows h)
  grow-exact {settings = settings} before w at exact room b =
      let most : settings.weight ≤ 4294967296 = b.suits.weight in
      let within : weight (history_of es) ≤ settings.weight = b.sound.within in
      let less : weight_of (graph h key) ≤ weight h = graph-weight h key in
      let all : weight (history_of es) ≡ weight h = ap (λ (x : History). weight x) same in
      let x : w ≡ 64 + length key + (weight_of rows - before) = exact (omega (arith, at, less, all, within, most)) (omega (arith, room, most)) in
      x ∙ ap (λ (n : ℕ). 64 + length key + (weight_of rows - n)) at ∙ sym entry_is
