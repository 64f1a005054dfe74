-- Steps one after another.
use Rattle.std.proofs.Common.{◌≡◌, ℕ, zero, suc, ◌+◌, ◌<◌, List, [], ◌∷◌, ◌++◌, length, map, take, drop, get_or, set, refl, sym, ap, subst, ◌∙◌, arith}
use Rattle.std.specs.Prelude.{Option, Some, None, Result, Ok, Err, IfOk, OnErr, option_map}
use Rattle.std.proofs.lemmas.Grind.{take_at_read}
use Rattle.std.proofs.lemmas.List.{length-map, map-set, drop_more, drop-set-lt}
use Rattle.osv_prim.specs.declared.oid.CommitRow.{CommitRow}
use Rattle.osv_record.specs.Advisories.{Advisory}
use Rattle.history.specs.declared.past.Past.{Past}
use Rattle.history.specs.declared.past.Past.TheVariants.{Import}
use Rattle.history.specs.Prefixes.{graph}
use Rattle.book_model.specs.State.{State, with_entry}
use Rattle.book_model.specs.Jobs.{JobName}
use Rattle.book_model.specs.Steps.{grown_by}
use Rattle.book.proofs.Keeping.{IsImport, import-is, grow-is, newest-import}
use Rattle.snapshot.specs.declared.job.Job.{Job}
use Rattle.snapshot.specs.Jobs.{name}
use Rattle.schedule.specs.Holding.{machine, EndsOne, IsHolding}
use Rattle.schedule.proofs.Holding.{none-map, holding-stays, job-named}
use Rattle.schedule.specs.declared.step.Step.{Step}
use Rattle.schedule.specs.declared.step.Answer.{Answer}
use Rattle.schedule.specs.Machine.{Machine, Does, Plays, idle, none_of, EndsFrom, IsPlayed}

pub plays-push : (list : List Step) (m mid t : Machine) (answers : List Answer) (step : Step) (answer : Answer) → Plays list m answers mid → Does step mid answer t → Plays (list ++ step ∷ []) m (answers ++ answer ∷ []) t
plays-push [] m mid t [] step answer p d = (t, subst (λ (x : Machine). Does step x answer t) p d, refl)
plays-push [] m mid t (a ∷ answers) step answer p d = absurd p
plays-push (s ∷ list) m mid t [] step answer p d = absurd p
plays-push (s ∷ list) m mid t (a ∷ answers) step answer p d = (p.0, p.1, plays-push list p.0 mid t answers step answer p.2 d)

-- the next step of a list, and its answer
pub plays-step : (list : List Step) (i : ℕ) (d step : Step) (m mid t : Machine) (answers now : List Answer) (answer : Answer) → i < length list → step ≡ get_or list i d → now ≡ answers ++ answer ∷ []
    → Plays (take i list) m answers mid → Does step mid answer t → Plays (take (i + 1) list) m now t
plays-step list i d step m mid t answers now answer lt is pushed p done =
    let front : take (i + 1) list ≡ take i list ++ get_or list i d ∷ [] = (take_at_read list i d lt).1 in
    subst (λ (xs : List Answer). Plays (take (i + 1) list) m xs t) (sym pushed)
    (subst (λ (xs : List Step). Plays xs m (answers ++ answer ∷ []) t) (sym (front ∙ ap (λ (x : Step). take i list ++ x ∷ []) (sym is))) (plays-push (take i list) m mid t answers step answer p done))

pub on_err-any : {A E : Type 0} (r : Result A E) (P : Type 0) → P → OnErr r P
on_err-any (Ok x) P p = tt
on_err-any (Err e) P p = p

-- ---- entries that count as imports

entered : (s t : State) (e : Past) (held : List (Option Job)) → IsImport e → t ≡ with_entry s e → IsHolding s held → IsHolding t held
entered s t e held i left h = subst (λ (x : State). IsHolding x held) (sym left) (holding-stays s (with_entry s e) held refl (newest-import s.history e i) refl (e ∷ [], refl) h)

pub entered-import : (s t : State) (by : ℕ) (r : Advisory) (held : List (Option Job)) → t ≡ with_entry s (Import by r) → IsHolding s held → IsHolding t held
entered-import s t by r held left h = entered s t (Import by r) held (import-is by r) left h

pub entered-rows : (s t : State) (by : ℕ) (key : List ℕ) (rows : List CommitRow) (held : List (Option Job)) → t ≡ with_entry s (grown_by by key rows s.history) → IsHolding s held → IsHolding t held
entered-rows s t by key rows held left h = entered s t (grown_by by key rows s.history) held (grow-is by key (drop (length (graph s.history key)) rows)) left h

-- ---- the end

pub ends-none : (n by : ℕ) (s : State) → EndsFrom by (none_of n) s s
ends-none zero by s = refl
ends-none (suc n) by s = ends-none n (by + 1) s

-- one caller more
pub ends-step : (held : List (Option Job)) (by : ℕ) (s mid t : State) → by < length held → EndsOne by (get_or held by None) s mid → EndsFrom (by + 1) (drop (by + 1) (map (λ job. option_map name job) held)) mid t → EndsFrom by (drop by (map (λ job. option_map name job) held)) s t
ends-step held by s mid t lt one rest =
    let long : by < length (map (λ job. option_map name job) held) = subst (λ (n : ℕ). by < n) (sym (length-map held (λ (job : Option Job). option_map name job))) lt in
    subst (λ (jobs : List (Option JobName)). EndsFrom by jobs s t) (sym (drop_more (map (λ job. option_map name job) held) by None long))
    (subst (λ (o : Option JobName). EndsFrom by (o ∷ drop (by + 1) (map (λ job. option_map name job) held)) s t) (sym (job-named held by)) (go (get_or held by None) one))
  where
    go : (o : Option Job) → EndsOne by o s mid → EndsFrom by (option_map name o ∷ drop (by + 1) (map (λ job. option_map name job) held)) s t
    go None e = subst (λ (x : State). EndsFrom (by + 1) (drop (by + 1) (map (λ job. option_map name job) held)) x t) e rest
    go (Some job) e = (mid, e, rest)

pub ends-rest : (held now : List (Option Job)) (by : ℕ) (s mid t : State) → by < length held → now ≡ set held by None → EndsOne by (get_or held by None) s mid → EndsFrom (by + 1) (drop (by + 1) (map (λ job. option_map name job) now)) mid t
    → EndsFrom by (drop by (map (λ job. option_map name job) held)) s t
ends-rest held now by s mid t lt left one rest =
    let same : drop (by + 1) (map (λ job. option_map name job) now) ≡ drop (by + 1) (map (λ job. option_map name job) held) =
    ap (λ (xs : List (Option Job)). drop (by + 1) (map (λ job. option_map name job) xs)) left ∙ ap (λ (xs : List (Option JobName)). drop (by + 1) xs) (map-set (λ (job : Option Job). option_map name job) held by None)
    ∙ drop-set-lt (by + 1) (map (λ (job : Option Job). option_map name job) held) by None (omega arith) in
    ends-step held by s mid t lt one (subst (λ (xs : List (Option JobName)). EndsFrom (by + 1) xs mid t) same rest)

-- the machine that a list begins with
pub begins : (s : State) (held : List (Option Job)) (callers : ℕ) → callers ≡ s.callers → held ≡ none_of callers → machine s held ≡ idle s
begins s held callers same none =
    ap (λ (xs : List (Option Job)). machine s xs) (none ∙ ap (λ (n : ℕ). none_of {X = Job} n) same) ∙ ap (λ (jobs : List (Option JobName)). with_jobs s jobs) (none-map name s.callers)
  where
    with_jobs : State → List (Option JobName) → Machine
    with_jobs s jobs = record { book = s; jobs = jobs }

pub played-ok : {A E : Type 0} (r : Result A E) (items : A → List Answer) (list : List Step) (s t : State) (m from : Machine) → from ≡ idle s → IfOk r (λ a. Plays list from (items a) m) → EndsFrom 0 m.jobs m.book t → IfOk r (λ a. IsPlayed list s (items a) t)
played-ok (Ok a) items list s t m from is p e = (m, subst (λ (x : Machine). Plays list x (items a) m) is p, e)
played-ok (Err x) items list s t m from is p e = tt

pub played-err : {A E : Type 0} (r : Result A E) (list : List Step) (s t : State) (m from : Machine) → from ≡ idle s → OnErr r ((done : ℕ) × (answers : List Answer) × Plays (take done list) from answers m) → EndsFrom 0 m.jobs m.book t
    → OnErr r ((done : ℕ) × (answers : List Answer) × IsPlayed (take done list) s answers t)
played-err (Ok a) list s t m from is p e = tt
played-err (Err x) list s t m from is p e = (p.0, p.1, (m, subst (λ (y : Machine). Plays (take p.0 list) y p.1 m) is p.2, e))

pub played-none : {A E : Type 0} (r : Result A E) (list : List Step) (s : State) → OnErr r ((done : ℕ) × (answers : List Answer) × IsPlayed (take done list) s answers s)
played-none r list s = on_err-any r _ (0, [], (idle s, refl, ends-none s.callers 0 s))
