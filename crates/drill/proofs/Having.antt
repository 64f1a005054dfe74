-- What a book has of a drill, step by step.
use Rattle.std.proofs.Common.{◌≡◌, ℕ, ◌+◌, ◌<◌, Bool, cond, List, [], ◌∷◌, ◌++◌, length, take, drop, get_or, map, refl, sym, ap, subst, ◌∙◌}
use Rattle.std.specs.Prelude.{Option, Some, None, Result, Ok, Err, OnOk}
use Rattle.std.specs.Str.{bytes_eq}
use Rattle.std.specs.Option.{option_map_or}
use Rattle.std.proofs.lemmas.List.{append-nil, append_assoc, map-append}
use Rattle.std.proofs.lemmas.Grind.{take_at_read}
use Rattle.std.proofs.lemmas.List.Sums.{fold-append}
use Rattle.osv_prim.specs.declared.oid.CommitRow.{CommitRow}
use Rattle.osv_prim.specs.Graphs.{joined, with_row}
use Rattle.osv_prim.specs.Repos.{normal_repo}
use Rattle.drill_input.specs.Questions.{repo_url}
use Rattle.osv_record.specs.Advisories.{Advisory}
use Rattle.commit_graph.specs.declared.fault.GraphFault.{GraphFault}
use Rattle.commit_graph.specs.Faults.{fault_of}
use Rattle.commit_graph.specs.Extended.{extended, extended_from}
use Rattle.settings.specs.declared.Settings.{Settings}
use Rattle.history.specs.declared.past.Past.{Past}
use Rattle.history.specs.declared.past.Past.TheVariants.{Import, Grow}
use Rattle.history.specs.Prefixes.{advisories, keys, with_key, graph}
use Rattle.history.proofs.Prefixes.{advisories-append, advisories-imports, keys_from-append, keys_from-imports, graph-imports, graph-goes_on, itself}
use Rattle.book_model.specs.State.{State, opening}
use Rattle.schedule.specs.declared.step.Answer.TheVariants.{Entry}
use Rattle.schedule.specs.Machine.{Machine, idle, EndsFrom, DoesImport, DoesGrow}
use Rattle.drill.specs.Imported.{Has, IsOnly, drill_key}
use Rattle.drill.proofs.Joining.{joined-again}
use Rattle.drill.proofs.Quiet.{Same, ends-same}

pub has-none : (s : State) (settings : Settings) → s ≡ opening settings → Has s [] [] []
has-none s settings e = subst (λ (x : State). Has x [] [] []) (sym e) (record { came = refl; repos = refl; its_graph = refl })

pub has-same : (s t : State) (a : List Advisory) (ks : List (List ℕ)) (rows : List CommitRow) → Same s t → Has s a ks rows → Has t a ks rows
has-same s t a ks rows e h = record {
  came = sym (advisories-imports t.history) ∙ ap (λ (p : List Past). advisories p) e ∙ advisories-imports s.history ∙ h.came;
  repos = sym (keys_from-imports [] t.history) ∙ ap (λ (p : List Past). keys p) e ∙ keys_from-imports [] s.history ∙ h.repos;
  its_graph = sym (graph-imports t.history drill_key) ∙ ap (λ (p : List Past). graph p drill_key) e ∙ graph-imports s.history drill_key ∙ h.its_graph;
}

-- ---- an advisory

has_import : (s t : State) (by : ℕ) (r : Advisory) (a : List Advisory) (ks : List (List ℕ)) (rows : List CommitRow) → t.history ≡ s.history ++ Import by r ∷ [] → Has s a ks rows → Has t (a ++ r ∷ []) ks rows
has_import s t by r a ks rows e h = record {
  came = ap (λ (p : List Past). advisories p) e ∙ advisories-append s.history (Import by r ∷ []) ∙ ap (λ (xs : List Advisory). xs ++ r ∷ []) h.came;
  repos = ap (λ (p : List Past). keys p) e ∙ keys_from-append [] s.history (Import by r ∷ []) ∙ h.repos;
  its_graph = ap (λ (p : List Past). graph p drill_key) e ∙ graph-goes_on s.history (Import by r ∷ []) drill_key ∙ h.its_graph;
}

pub has-import : (s t : State) (by place : ℕ) (r : Advisory) (m mid : Machine) (a : List Advisory) (ks : List (List ℕ)) (rows : List CommitRow)
    → DoesImport by r (idle s) (Entry place) mid → m ≡ mid → EndsFrom 0 m.jobs m.book t → Has s a ks rows → Has t (a ++ r ∷ []) ks rows
has-import s t by place r m mid a ks rows d same ends h =
    has_import s t by r a ks rows (ends-same 0 m.jobs m.book t ends ∙ ap (λ (x : Machine). x.book.history) same ∙ ap (λ (x : State). x.history) d.1.0.2) h

-- ---- rows

ok_rest : (o : Option GraphFault) (rest : Result (List CommitRow) GraphFault) (g : List CommitRow) → option_map_or Err o rest ≡ Ok g → rest ≡ Ok g
ok_rest None rest g e = e
ok_rest (Some fault) rest g e = absurd cc

extended_ok : (rows : List CommitRow) (index most : ℕ) (g larger : List CommitRow) → extended_from index g most rows ≡ Ok larger → larger ≡ joined g rows
extended_ok [] index most g larger e = sym cc
extended_ok (r ∷ rows) index most g larger e = extended_ok rows (index + 1) most (with_row g r) larger (ok_rest (fault_of g most index r) (extended_from (index + 1) (with_row g r) most rows) larger e)

extended-ok : (rows g larger : List CommitRow) (most : ℕ) → extended g most rows ≡ Ok larger → larger ≡ joined g rows
unfolding extended
extended-ok rows g larger most e = extended_ok rows 0 most g larger e

has_rows : (s t : State) (by : ℕ) (larger rows : List CommitRow) (a : List Advisory) (ks : List (List ℕ)) (before : List CommitRow) → IsOnly ks → larger ≡ joined (graph s.history drill_key) rows
    → t.history ≡ s.history ++ Grow by drill_key (drop (length (graph s.history drill_key)) larger) ∷ [] → Has s a ks before → Has t a (drill_key ∷ []) (before ++ rows)
has_rows s t by larger rows a ks before only is e h =
    let g : List CommitRow = graph s.history drill_key in
    let more : List CommitRow = drop (length g) larger in
    let one : joined g (cond (bytes_eq drill_key drill_key) (more ++ []) []) ≡ joined g more =
    ap (λ (b : Bool). joined g (cond b (more ++ []) [])) (itself drill_key) ∙ ap (λ (xs : List CommitRow). joined g xs) (append-nil more) in
    record {
      came = ap (λ (p : List Past). advisories p) e ∙ advisories-append s.history (Grow by drill_key more ∷ []) ∙ append-nil (advisories s.history) ∙ h.came;
      repos = ap (λ (p : List Past). keys p) e ∙ keys_from-append [] s.history (Grow by drill_key more ∷ []) ∙ ap (λ (us : List (List ℕ)). with_key us drill_key) h.repos ∙ only;
      its_graph = ap (λ (p : List Past). graph p drill_key) e ∙ graph-goes_on s.history (Grow by drill_key more ∷ []) drill_key ∙ one
          ∙ ap (λ (xs : List CommitRow). joined g (drop (length g) xs)) is ∙ joined-again g rows
          ∙ ap (λ (xs : List CommitRow). joined xs rows) h.its_graph ∙ sym (fold-append with_row [] before rows);
    }

pub has-rows : (s t : State) (by place : ℕ) (key : List ℕ) (rows : List CommitRow) (m mid : Machine) (a : List Advisory) (ks : List (List ℕ)) (before : List CommitRow)
    → key ≡ drill_key → DoesGrow by key rows (idle s) (Entry place) mid → m ≡ mid → EndsFrom 0 m.jobs m.book t → IsOnly ks → Has s a ks before → Has t a (drill_key ∷ []) (before ++ rows)
has-rows s t by place key rows m mid a ks before is d same ends only h =
    let x = subst (λ (k : List ℕ). DoesGrow by k rows (idle s) (Entry place) mid) is d in
    has_rows s t by x.1.0 rows a ks before only (extended-ok rows (graph s.history drill_key) x.1.0 s.settings.commits x.1.1)
    (ends-same 0 m.jobs m.book t ends ∙ ap (λ (y : Machine). y.book.history) same ∙ ap (λ (y : State). y.history) x.1.2.0.1.2) h

-- ---- whole parts

pub only-none : IsOnly []
only-none = refl

pub only-one : IsOnly (drill_key ∷ [])
only-one = ap (λ (b : Bool). cond b (drill_key ∷ []) (drill_key ∷ drill_key ∷ [])) (itself drill_key)

pub one-more : {X : Type 0} (f : X → Advisory) (xs : List X) (i : ℕ) (x : X) (a : List Advisory) → i < length xs → x ≡ get_or xs i x → a ++ map f (take i xs) ++ f x ∷ [] ≡ a ++ map f (take (i + 1) xs)
one-more {X = X} f xs i x a lt is =
    append_assoc a (map f (take i xs)) (f x ∷ [])
    ∙ ap (λ (ys : List Advisory). a ++ ys)
    (sym (map-append f (take i xs) (x ∷ [])) ∙ ap (λ (ys : List X). map f ys) (ap (λ (y : X). take i xs ++ y ∷ []) is ∙ sym (take_at_read xs i x lt).1))

pub key-is : (key : List ℕ) → key ≡ normal_repo repo_url → key ≡ drill_key
unfolding drill_key
key-is key e = e

pub has-eq : {A E : Type 0} (r : Result A E) (s : State) (ks : List (List ℕ)) {xs ys : List Advisory} {rs qs : List CommitRow} → xs ≡ ys → rs ≡ qs → OnOk r (Has s xs ks rs) → OnOk r (Has s ys ks qs)
has-eq r s ks {xs = xs} {ys = ys} {rs = rs} {qs = qs} e f h =
    subst (λ (l : List Advisory). OnOk r (Has s l ks qs)) e (subst (λ (l : List CommitRow). OnOk r (Has s xs ks l)) f h)
