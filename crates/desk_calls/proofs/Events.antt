-- What an event of a desk comes to for a session.
use Rattle.std.proofs.Common.{◌≡◌, ℕ, ◌+◌, ◌<◌, ◌≤◌, min, List, [], ◌∷◌, ◌++◌, length, refl, sym, ap, subst, ◌∙◌, arith}
use Rattle.std.specs.Prelude.{Option, Result, Ok, Err}
use mathlib.Core.List.{IsPrefix}
use Rattle.std.specs.Arc.{arc_value}
use Rattle.std.specs.declared.sync.Arc.{Arc}
use Rattle.osv_prim.specs.declared.memory.Memory.{Memory}
use Rattle.osv_record.specs.Advisories.{Advisory}
use Rattle.settings.specs.declared.Settings.{Settings}
use Rattle.turn_lock.specs.declared.note.Last.{Last}
use Rattle.turn_lock.specs.History.{saturating_next}
use Rattle.history.specs.declared.past.Past.{Past}
use Rattle.history.specs.declared.past.Past.TheVariants.{Import}
use Rattle.history.specs.Entries.{History, imports, newest, snap, weight, entry_weight, IsKept, IsGone, IsAhead, oldest_kept}
use Rattle.history.specs.Legality.{IsLegal}
use Rattle.history.proofs.Entries.{front-refl, front-trans, front-length, imports-front}
use Rattle.book_model.specs.declared.answers.ImportFault.{ImportFault}
use Rattle.book_model.specs.declared.answers.ImportFault.TheVariants as import_faults
use Rattle.book_model.specs.declared.answers.Kept.{Kept}
use Rattle.book_model.specs.declared.answers.Kept.TheVariants as kept
use Rattle.book_model.specs.declared.answers.Newest.{Newest}
use Rattle.book_model.specs.State.{Build, State}
use Rattle.book_model.specs.Steps as steps
use Rattle.book_model.specs.Steps.{Imports, CountsImports, Looks, FindsEach}
use Rattle.book_model.specs.Desk.{Caller, IsEvent, CountsStay, AddsNone, AddsOwn}
use Rattle.book_model.specs.Sound.{Keeps}
use Rattle.book_model.proofs.Own.{adds-none, import-adds}
use Rattle.book_model.proofs.Growing.{keeps-same, imports-keeps}
use Rattle.snapshot.specs.declared.snapshot.Snapshot.{Snapshot}
use Rattle.snapshot.specs.Snapshots.{StandsFor}
use Rattle.session_model.specs.Answers.{AddsNothing, AddsEntry}
use Rattle.session_model.specs.Counts.{Rises}
use Rattle.session_model.specs.Runs.{Goes}
use Rattle.session_model.proofs.Runs.{goes-refl}
use Rattle.session_model.proofs.Apart.{apart-refl}
use Rattle.desk_calls.specs.Calls.{Still, Quiet, Passes, Full, Imported, Counted, NewestIs, Finds, FindsAll, KeptIs, AllAre}
use Rattle.desk_calls.proofs.Alone.{if-some, only-own, same-build, same-history, apart-same-build}

-- ---- any event

pub goes : (does : State → State → Type 0) (old new : Caller) → IsEvent does old new → IsPrefix old.front new.front → Goes old new
goes does old new v p = record { lock = v.lock; settings = v.settings; me = v.me; begins = p; legal = subst (λ (h : History). IsLegal h) (sym v.front) v.sound_left.legal }

pub nothing : (old new : Caller) → AddsNone old new → AddsNothing old.me old.front new.front
nothing old new a = record { begins = a.begins; mine = a.mine }

pub turned-up : (does : State → State → Type 0) (old new : Caller) → IsEvent does old new → min (old.last.turned + 1) 18446744073709551615 ≤ new.last.turned
turned-up does old new v = let e : new.last.turned ≡ saturating_next old.last.turned = ap (λ (l : Last). l.turned) v.last in omega (arith, e)

pub one-call : (does : State → State → Type 0) (old new : Caller) → IsEvent does old new → CountsStay old new → Rises 0 0 1 old new
one-call does old new v k = record { busy_rose = omega (arith, k.busy); turns_rose = omega (arith, k.turns); looks_rose = turned-up does old new v }

-- the history and the build are as they were
pub still : (does : State → State → Type 0) (old new : Caller) → (v : IsEvent does old new) → Keeps old.me v.found v.left → v.left.history ≡ v.found.history → v.left.build ≡ v.found.build → Still old new
still does old new v k h b =
    let a = adds-none does old new v h in
    record { goes = goes does old new v a.begins; none = nothing old new a; apart = apart-same-build old new (only-own does old new v k) (same-build does old new v b); front = λ none. same-history does old new v h }

-- the book is as it was
pub quiet : (does : State → State → Type 0) (old new : Caller) → (v : IsEvent does old new) → v.left ≡ v.found → CountsStay old new → Quiet old new
quiet does old new v same k =
    let h : v.left.history ≡ v.found.history = ap (λ (s : State). s.history) same in
    let b : v.left.build ≡ v.found.build = ap (λ (s : State). s.build) same in
    record {
      still = still does old new v (keeps-same old.me v.found v.left same) h b;
      rises = one-call does old new v k;
      outs = k.outs;
      alone = λ alone. same-build does old new v b ∙ alone;
    }

-- the history is as it was
pub passes : (does : State → State → Type 0) (old new : Caller) → (v : IsEvent does old new) → Keeps old.me v.found v.left → v.left.history ≡ v.found.history → CountsStay old new → Passes old new
passes does old new v k h stay =
    let a = adds-none does old new v h in
    record { goes = goes does old new v a.begins; none = nothing old new a; rises = one-call does old new v stay; outs = stay.outs; own = only-own does old new v k }

pub own-entry : (e : Past) (place : ℕ) (old new : Caller) → AddsOwn e place old new → AddsEntry old.me e place old.front new.front
own-entry e place old new a = record { before = a.before; begins = a.begins; ends = a.ends; place_is = a.place_is; mine = a.mine }

pub own-front : (e : Past) (place : ℕ) (old new : Caller) → AddsOwn e place old new → IsPrefix old.front new.front
own-front e place old new a = front-trans old.front a.before new.front a.begins (e ∷ [], sym a.ends)

-- ---- imports

full : (r : Advisory) (used limit : ℕ) (old new : Caller) → IsEvent (λ s t. Imports old.me r s (Err (import_faults.JournalFull used limit)) t) old new → CountsStay old new → Full old r used limit new
full r used limit old new v k =
    let same : new.front ≡ v.found.history = v.front ∙ ap (λ (s : State). s.history) v.acts.1 in
    let limit_then : v.found.settings.weight ≡ old.settings.weight = ap (λ (s : Settings). s.weight) v.same_settings in
    let passed : v.found.settings.weight < weight v.found.history + entry_weight (Import old.me r) = v.acts.0.0 in
    let heavy : weight new.front ≡ weight v.found.history = ap weight same in
    record {
      quiet = quiet (λ s t. Imports old.me r s (Err (import_faults.JournalFull used limit)) t) old new v v.acts.1 k;
      used_is = v.acts.0.1 ∙ sym heavy;
      limit_is = v.acts.0.2 ∙ limit_then;
      passes = omega (arith, passed, heavy, limit_then);
    }

pub imported : (r : Advisory) (answer : Result ℕ ImportFault) (old new : Caller) → IsEvent (λ s t. Imports old.me r s answer t) old new → CountsStay old new → Imported old r answer new
imported r (Ok place) old new v k =
    let a = import-adds r place old new v in
    let heavy : weight new.front ≡ weight v.left.history = ap weight v.front in
    let kept_settings : v.left.settings.weight ≡ v.found.settings.weight = ap (λ (s : State). s.settings.weight) v.acts.2 in
    let limit_then : v.found.settings.weight ≡ old.settings.weight = ap (λ (s : Settings). s.weight) v.same_settings in
    let within : weight v.left.history ≤ v.left.settings.weight = v.sound_left.within in
    let same : new.alone ≡ old.alone = same-build (λ s t. Imports old.me r s (Ok place) t) old new v (ap (λ (s : State). s.build) v.acts.2) in
    record {
      goes = goes (λ s t. Imports old.me r s (Ok place) t) old new v (own-front (Import old.me r) place old new a);
      rises = one-call (λ s t. Imports old.me r s (Ok place) t) old new v k;
      outs = k.outs;
      adds = own-entry (Import old.me r) place old new a;
      within = omega (arith, heavy, kept_settings, limit_then, within);
      apart = apart-same-build old new (only-own (λ s t. Imports old.me r s (Ok place) t) old new v (imports-keeps old.me r v.found v.left (Ok place) v.acts)) same;
      alone = λ alone. same ∙ alone;
    }
imported r (Err (import_faults.JournalFull used limit)) old new v k = full r used limit old new v k
imported r (Err import_faults.Memory) old new v k = quiet (λ s t. Imports old.me r s (Err import_faults.Memory) t) old new v v.acts.1 k

pub counted : (count : ℕ) (old new : Caller) → IsEvent (λ s t. CountsImports s count t) old new → CountsStay old new → Counted old count new
counted count old new v k =
    let same : new.front ≡ v.found.history = v.front ∙ ap (λ (s : State). s.history) v.acts.1 in
    let all : length (imports new.front) ≡ length (imports v.found.history) = ap (λ (h : History). length (imports h)) same in
    record {
      quiet = quiet (λ s t. CountsImports s count t) old new v v.acts.1 k;
      least = omega (arith, v.acts.0, front-length (imports old.front) (imports v.found.history) (imports-front old.front v.found.history v.begins));
      came = omega (arith, v.acts.0, all);
    }

-- ---- snapshots

look_left : {Z : Type 0} (numbers : List ℕ) (answer : Result (Newest (Arc Snapshot Z)) Memory) (found : List (Kept (Arc Snapshot Z))) (s t : State) → Looks (λ a p. StandsFor (arc_value a) p) numbers s answer found t → t ≡ s
look_left numbers (Ok now) found s t p = p.3
look_left numbers (Err e) found s t p = p.1

pub looked : {Z : Type 0} (numbers : List ℕ) (answer : Result (Newest (Arc Snapshot Z)) Memory) (found : List (Kept (Arc Snapshot Z))) (old new : Caller)
    → IsEvent (λ s t. Looks (λ a p. StandsFor (arc_value a) p) numbers s answer found t) old new → CountsStay old new → Quiet old new
looked {Z = Z} numbers answer found old new v k =
    quiet (λ s t. Looks (λ (a : Arc Snapshot Z) p. StandsFor (arc_value a) p) numbers s answer found t) old new v (look_left numbers answer found v.found v.left v.acts) k

pub newest-is : {Z : Type 0} (numbers : List ℕ) (answer : Result (Newest (Arc Snapshot Z)) Memory) (found : List (Kept (Arc Snapshot Z))) (old new : Caller)
    → IsEvent (λ s t. Looks (λ a p. StandsFor (arc_value a) p) numbers s answer found t) old new → CountsStay old new → NewestIs old answer new
newest-is numbers (Ok now) found old new v k =
    let same : new.front ≡ v.found.history = v.front ∙ ap (λ (s : State). s.history) v.acts.3 in (
      looked numbers (Ok now) found old new v k,
      v.acts.0 ∙ ap newest (sym same),
      subst (λ (h : History). StandsFor (arc_value now.snapshot) (snap h (newest h))) (sym same) v.acts.1,
    )
newest-is numbers (Err e) found old new v k = looked numbers (Err e) found old new v k

finds-then : {Z : Type 0} (s : State) (keep n : ℕ) (h : History) (x : Kept (Arc Snapshot Z)) → s.settings.keep ≡ keep → s.history ≡ h → steps.Finds (λ a p. StandsFor (arc_value a) p) s n x → Finds keep h n x
finds-then s keep n h (kept.Here snapshot) e f p =
    (subst (λ (k : ℕ). IsKept k h n) e (subst (λ (a : History). IsKept s.settings.keep a n) f p.0), subst (λ (a : History). StandsFor (arc_value snapshot) (snap a n)) f p.1)
finds-then s keep n h (kept.Gone oldest) e f p =
    (subst (λ (k : ℕ). IsGone k h n) e (subst (λ (a : History). IsGone s.settings.keep a n) f p.0), p.1 ∙ ap (λ (a : History). oldest_kept s.settings.keep a) f ∙ ap (λ (k : ℕ). oldest_kept k h) e)
finds-then s keep n h (kept.Ahead now) e f p = (subst (λ (a : History). IsAhead a n) f p.0, p.1 ∙ ap newest f)

one-found : {Z : Type 0} (s : State) (n : ℕ) (items front : List (Kept (Arc Snapshot Z))) (x : Kept (Arc Snapshot Z)) → FindsEach (λ a p. StandsFor (arc_value a) p) s (n ∷ []) items → items ≡ front ++ x ∷ []
    → steps.Finds (λ a p. StandsFor (arc_value a) p) s n x
one-found s n [] front x p e = absurd p
one-found {Z = Z} s n (y ∷ []) [] x p e =
    let same : y ≡ x = cc in
    subst (λ (w : Kept (Arc Snapshot Z)). steps.Finds (λ a p. StandsFor (arc_value a) p) s n w) same p.0
one-found s n (y ∷ []) (z ∷ []) x p e = absurd cc
one-found s n (y ∷ []) (z ∷ w ∷ front) x p e = absurd cc
one-found s n (y ∷ z ∷ items) front x p e = absurd p.1

pub kept-is : {Z : Type 0} (n : ℕ) (now : Newest (Arc Snapshot Z)) (items front : List (Kept (Arc Snapshot Z))) (x : Kept (Arc Snapshot Z)) (old new : Caller)
    → IsEvent (λ s t. Looks (λ a p. StandsFor (arc_value a) p) (n ∷ []) s (Ok now) items t) old new → CountsStay old new → items ≡ front ++ x ∷ [] → KeptIs old n now.number x new
kept-is n now items front x old new v k e =
    let same : new.front ≡ v.found.history = v.front ∙ ap (λ (s : State). s.history) v.acts.3 in
    let keep : v.found.settings.keep ≡ old.settings.keep = ap (λ (s : Settings). s.keep) v.same_settings in
    record {
      quiet = looked (n ∷ []) (Ok now) items old new v k;
      now_is = v.acts.0 ∙ ap newest (sym same);
      finds = finds-then v.found old.settings.keep n new.front x keep (sym same) (one-found v.found n items front x v.acts.2 e);
    }

all-found : {Z : Type 0} (s : State) (keep : ℕ) (h : History) (numbers : List ℕ) (found : List (Kept (Arc Snapshot Z))) → s.settings.keep ≡ keep → s.history ≡ h → FindsEach (λ a p. StandsFor (arc_value a) p) s numbers found → FindsAll keep h numbers found
all-found s keep h [] [] e f p = tt
all-found s keep h (n ∷ numbers) (x ∷ found) e f p = (finds-then s keep n h x e f p.0, all-found s keep h numbers found e f p.1)
all-found s keep h [] (x ∷ found) e f p = absurd p
all-found s keep h (n ∷ numbers) [] e f p = absurd p

pub all-are : {Z : Type 0} (numbers : List ℕ) (now : Newest (Arc Snapshot Z)) (items : List (Kept (Arc Snapshot Z))) (old new : Caller)
    → IsEvent (λ s t. Looks (λ a p. StandsFor (arc_value a) p) numbers s (Ok now) items t) old new → CountsStay old new → AllAre old numbers now items new
all-are numbers now items old new v k =
    let same : new.front ≡ v.found.history = v.front ∙ ap (λ (s : State). s.history) v.acts.3 in
    let keep : v.found.settings.keep ≡ old.settings.keep = ap (λ (s : Settings). s.keep) v.same_settings in
    record {
      quiet = looked numbers (Ok now) items old new v k;
      now_is = v.acts.0 ∙ ap newest (sym same);
      stands = subst (λ (h : History). StandsFor (arc_value now.snapshot) (snap h (newest h))) (sym same) v.acts.1;
      finds = all-found v.found old.settings.keep new.front numbers items keep (sym same) v.acts.2;
    }

-- ---- no call

pub nothing-called : (c : Caller) → IsLegal c.front → Still c c
nothing-called c legal = record { goes = goes-refl c legal; none = record { begins = front-refl c.front; mine = refl }; apart = apart-refl c; front = λ none. if-some (λ (b : Option Build). c.front ≡ c.front) c.alone (λ build e. refl) }
