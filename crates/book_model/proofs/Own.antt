-- What a call adds to the caller's own entries.
use Rattle.std.proofs.Common.{◌≡◌, ℕ, ◌+◌, List, [], ◌∷◌, ◌++◌, length, eq-eqb, refl, sym, ap, subst, ◌∙◌}
use mathlib.Core.List.{IsPrefix}
use Rattle.std.specs.Prelude.{Option, Some, None, Result, Ok, Err, IsSomeAnd}
use Rattle.osv_prim.specs.declared.memory.Memory.{Memory}
use Rattle.osv_prim.specs.declared.oid.CommitRow.{CommitRow}
use Rattle.osv_record.specs.Advisories.{Advisory}
use Rattle.history.specs.declared.past.Past.{Past}
use Rattle.history.specs.declared.past.Past.TheVariants.{Import, Publish}
use Rattle.history.specs.Entries.{History, caller, newest, own}
use Rattle.history.proofs.Entries.{own-same, own-push, newest-append}
use Rattle.book_model.specs.declared.answers.ImportFault.{ImportFault}
use Rattle.book_model.specs.declared.answers.ImportFault.TheVariants as import_faults
use Rattle.book_model.specs.declared.answers.GrowFault.{GrowFault}
use Rattle.book_model.specs.declared.answers.GrowFault.TheVariants as grow_faults
use Rattle.book_model.specs.declared.answers.Pulled.{Pulled}
use Rattle.book_model.specs.declared.answers.Newest.{Newest}
use Rattle.book_model.specs.declared.answers.Kept.{Kept}
use Rattle.book_model.specs.declared.answers.Pulled.TheVariants as pulled
use Rattle.book_model.specs.declared.answers.Taken.{Taken}
use Rattle.book_model.specs.declared.answers.Taken.TheVariants as taken
use Rattle.book_model.specs.declared.answers.Strange.{Strange}
use Rattle.book_model.specs.declared.answers.Progress.TheVariants as progress
use Rattle.book_model.specs.State.{Kind, Plan, Piece, Assemble, Build, State}
use Rattle.book_model.specs.Jobs.{JobName, Outcome}
use Rattle.book_model.specs.Steps.{Imports, grown_by, Grows, GoesOut, Pulls, Takes, GoesOn, Publishes, Finishes, GivesBack, CountsImports, ShowsRepo, Looks}
use Rattle.book_model.specs.Desk.{Caller, alone_after, IsEvent, AddsOwn, AddsNone}
use Rattle.book_model.proofs.Owned.{some_of}

-- what a call found of the caller's own
found_own : (does : State → State → Type 0) (old new : Caller) → (v : IsEvent does old new) → own old.me v.found.history ≡ own old.me old.front
found_own does old new v = own-same old.me old.front v.found.history v.begins v.own

pub adds-none : (does : State → State → Type 0) (old new : Caller) → (v : IsEvent does old new) → v.left.history ≡ v.found.history → AddsNone old new
adds-none does old new v same =
    let now : new.front ≡ v.found.history = v.front ∙ same in
    record {
      begins = subst (λ (h : History). IsPrefix old.front h) (sym now) v.begins;
      mine = ap (own old.me) now ∙ found_own does old new v;
    }

pub adds-own : (does : State → State → Type 0) (old new : Caller) (e : Past) → (v : IsEvent does old new) → caller e ≡ old.me → v.left.history ≡ v.found.history ++ e ∷ [] → AddsOwn e (length v.found.history) old new
adds-own does old new e v is added =
    let now : new.front ≡ v.found.history ++ e ∷ [] = v.front ∙ added in
    record {
      before = v.found.history;
      begins = v.begins;
      ends = now;
      place_is = refl;
      mine = ap (own old.me) now ∙ own-push old.me v.found.history e (eq-eqb (caller e) old.me is) ∙ ap (λ (xs : List (ℕ × Past)). xs ++ (length v.found.history, e) ∷ []) (found_own does old new v);
    }

at_place : (e : Past) (place length_before : ℕ) (old new : Caller) → place ≡ length_before → AddsOwn e length_before old new → AddsOwn e place old new
at_place e place n old new is a = subst (λ (k : ℕ). AddsOwn e k old new) (sym is) a

pub import-adds : (advisory : Advisory) (place : ℕ) (old new : Caller) → IsEvent (λ s t. Imports old.me advisory s (Ok place) t) old new → AddsOwn (Import old.me advisory) place old new
import-adds advisory place old new v =
    at_place (Import old.me advisory) place (length v.found.history) old new v.acts.1
    (adds-own (λ s t. Imports old.me advisory s (Ok place) t) old new (Import old.me advisory) v refl (ap (λ (s : State). s.history) v.acts.2))

pub grow-adds : (key : List ℕ) (version : ℕ) (rows : List CommitRow) (place : ℕ) (old new : Caller) → (v : IsEvent (λ s t. Grows old.me key version rows s (Ok place) t) old new) → AddsOwn (grown_by old.me key rows v.found.history) place old new
grow-adds key version rows place old new v =
    at_place (grown_by old.me key rows v.found.history) place (length v.found.history) old new v.acts.1.1
    (adds-own (λ s t. Grows old.me key version rows s (Ok place) t) old new (grown_by old.me key rows v.found.history) v refl (ap (λ (s : State). s.history) v.acts.1.2))

published_step : (k : Kind) (by : ℕ) (done : Outcome) (found left : State) (entry snapshot : ℕ) → Publishes k by done found entry snapshot left
    → (entry ≡ length found.history) × (snapshot ≡ newest found.history + 1) × (left.history ≡ found.history ++ Publish by done.job.upto ∷ [])
published_step Plan by done found left entry snapshot p = absurd p
published_step Piece by done found left entry snapshot p = absurd p
published_step Assemble by done found left entry snapshot p = (p.0, p.1, ap (λ (s : State). s.history) p.2)

pub publish-adds : (done : Outcome) (entry snapshot : ℕ) (old new : Caller) → IsEvent (λ s t. Finishes old.me done s (Ok (progress.Published entry snapshot)) t) old new
    → AddsOwn (Publish old.me done.job.upto) entry old new × (newest new.front ≡ snapshot)
publish-adds done entry snapshot old new v =
    let p = published_step done.job.kind old.me done v.found v.left entry snapshot v.acts.1 in
    let now : newest new.front ≡ newest v.found.history + 1 = ap newest (v.front ∙ p.2) ∙ newest-append v.found.history (Publish old.me done.job.upto ∷ []) in (
      at_place (Publish old.me done.job.upto) entry (length v.found.history) old new p.0
          (adds-own (λ s t. Finishes old.me done s (Ok (progress.Published entry snapshot)) t) old new (Publish old.me done.job.upto) v refl p.2),
      now ∙ sym p.1,
    )

-- ---- calls that add nothing

import-history : (by : ℕ) (advisory : Advisory) (old new : State) (e : ImportFault) → Imports by advisory old (Err e) new → new.history ≡ old.history
import-history by advisory old new (import_faults.JournalFull used limit) st = ap (λ (s : State). s.history) st.1
import-history by advisory old new import_faults.Memory st = ap (λ (s : State). s.history) st.1

grow-history : (by : ℕ) (key : List ℕ) (version : ℕ) (rows : List CommitRow) (old new : State) (e : GrowFault) → Grows by key version rows old (Err e) new → new.history ≡ old.history
grow-history by key version rows old new (grow_faults.RepoMoved seen now) st = ap (λ (s : State). s.history) st.3
grow-history by key version rows old new (grow_faults.JournalFull used limit) st = ap (λ (s : State). s.history) st.2
grow-history by key version rows old new grow_faults.Memory st = ap (λ (s : State). s.history) st.2

pull-history : {J : Type 0} (name : J → JobName) (is_job : J → List Past → List Past → Type 0) (by goal : ℕ) (old new : State) (answer : Result (Pulled J) Memory) → Pulls name is_job by goal old answer new → new.history ≡ old.history
pull-history name is_job by goal old new (Ok (pulled.Reached snapshot upto)) st = ap (λ (s : State). s.history) st.3
pull-history name is_job by goal old new (Ok (pulled.Job job)) st = ap (λ (s : State). s.history) st.1.left
pull-history name is_job by goal old new (Ok (pulled.Out out)) st = ap (λ (s : State). s.history) st.3
pull-history name is_job by goal old new (Err memory) st = ap (λ (s : State). s.history) st

take_step : {J : Type 0} (name : J → JobName) (is_job : J → List Past → List Past → Type 0) (by : ℕ) (old new : State) (job : J) (build : Option Build) → IsSomeAnd build (λ b. GoesOut name is_job by old b job new) → new.history ≡ old.history
take_step name is_job by old new job None g = absurd g
take_step name is_job by old new job (Some b) g = ap (λ (s : State). s.history) g.left

take-history : {J : Type 0} (name : J → JobName) (is_job : J → List Past → List Past → Type 0) (by : ℕ) (old new : State) (answer : Result (Taken J) Memory) → Takes name is_job by old answer new → new.history ≡ old.history
take-history name is_job by old new (Ok (taken.Job job)) st = take_step name is_job by old new job old.build st
take-history name is_job by old new (Ok (taken.Nothing out)) st = ap (λ (s : State). s.history) st.2
take-history name is_job by old new (Err memory) st = ap (λ (s : State). s.history) st

going_step : (k : Kind) (done : Outcome) (old new : State) → GoesOn k done old new → new.history ≡ old.history
going_step Plan done old new g = ap (λ (s : State). s.history) g
going_step Piece done old new g = ap (λ (s : State). s.history) g
going_step Assemble done old new g = absurd g

give_back-history : {U : Type 0} (by : ℕ) (job : JobName) (old new : State) (answer : Result U Strange) → GivesBack by job old answer new → new.history ≡ old.history
give_back-history by job old new (Ok done) st = ap (λ (s : State). s.history) st.1
give_back-history by job old new (Err e) st = ap (λ (s : State). s.history) st.3

pub refused-import-adds : (advisory : Advisory) (e : ImportFault) (old new : Caller) → IsEvent (λ s t. Imports old.me advisory s (Err e) t) old new → AddsNone old new
refused-import-adds advisory e old new v = adds-none (λ s t. Imports old.me advisory s (Err e) t) old new v (import-history old.me advisory v.found v.left e v.acts)

pub refused-grow-adds : (key : List ℕ) (version : ℕ) (rows : List CommitRow) (e : GrowFault) (old new : Caller) → IsEvent (λ s t. Grows old.me key version rows s (Err e) t) old new → AddsNone old new
refused-grow-adds key version rows e old new v = adds-none (λ s t. Grows old.me key version rows s (Err e) t) old new v (grow-history old.me key version rows v.found v.left e v.acts)

pub pull-adds : {J : Type 0} (name : J → JobName) (is_job : J → List Past → List Past → Type 0) (goal : ℕ) (answer : Result (Pulled J) Memory) (old new : Caller) → IsEvent (λ s t. Pulls name is_job old.me goal s answer t) old new → AddsNone old new
pull-adds name is_job goal answer old new v = adds-none (λ s t. Pulls name is_job old.me goal s answer t) old new v (pull-history name is_job old.me goal v.found v.left answer v.acts)

pub take-adds : {J : Type 0} (name : J → JobName) (is_job : J → List Past → List Past → Type 0) (answer : Result (Taken J) Memory) (old new : Caller) → IsEvent (λ s t. Takes name is_job old.me s answer t) old new → AddsNone old new
take-adds name is_job answer old new v = adds-none (λ s t. Takes name is_job old.me s answer t) old new v (take-history name is_job old.me v.found v.left answer v.acts)

pub going-adds : (done : Outcome) (old new : Caller) → IsEvent (λ s t. Finishes old.me done s (Ok progress.Going) t) old new → AddsNone old new
going-adds done old new v = adds-none (λ s t. Finishes old.me done s (Ok progress.Going) t) old new v (going_step done.job.kind done v.found v.left v.acts.1)

pub strange-adds : (done : Outcome) (e : Strange) (old new : Caller) → IsEvent (λ s t. Finishes old.me done s (Err e) t) old new → AddsNone old new
strange-adds done e old new v = adds-none (λ s t. Finishes old.me done s (Err e) t) old new v (ap (λ (s : State). s.history) v.acts.3)

pub give_back-adds : {U : Type 0} (job : JobName) (answer : Result U Strange) (old new : Caller) → IsEvent (λ s t. GivesBack old.me job s answer t) old new → AddsNone old new
give_back-adds job answer old new v = adds-none (λ s t. GivesBack old.me job s answer t) old new v (give_back-history old.me job v.found v.left answer v.acts)

-- ---- calls that only look

pub imports-adds : (count : ℕ) (old new : Caller) → IsEvent (λ s t. CountsImports s count t) old new → AddsNone old new
imports-adds count old new v = adds-none (λ s t. CountsImports s count t) old new v (ap (λ (s : State). s.history) v.acts.1)

repo-history : {G : Type 0} (rows : G → List CommitRow) (key : List ℕ) (old new : State) (answer : Result (ℕ × G) Memory) → ShowsRepo rows key old answer new → new.history ≡ old.history
repo-history rows key old new (Ok found) st = ap (λ (s : State). s.history) st.2
repo-history rows key old new (Err memory) st = ap (λ (s : State). s.history) st

pub repo-adds : {G : Type 0} (rows : G → List CommitRow) (key : List ℕ) (answer : Result (ℕ × G) Memory) (old new : Caller) → IsEvent (λ s t. ShowsRepo rows key s answer t) old new → AddsNone old new
repo-adds rows key answer old new v = adds-none (λ s t. ShowsRepo rows key s answer t) old new v (repo-history rows key v.found v.left answer v.acts)

look-history : {S : Type 0} (stands_for : S → List Past → Type 0) (numbers : List ℕ) (old new : State) (answer : Result (Newest S) Memory) (found : List (Kept S)) → Looks stands_for numbers old answer found new → new.history ≡ old.history
look-history stands_for numbers old new (Ok now) found st = ap (λ (s : State). s.history) st.3
look-history stands_for numbers old new (Err memory) found st = ap (λ (s : State). s.history) st.1

pub look-adds : {S : Type 0} (stands_for : S → List Past → Type 0) (numbers : List ℕ) (answer : Result (Newest S) Memory) (found : List (Kept S)) (old new : Caller) → IsEvent (λ s t. Looks stands_for numbers s answer found t) old new → AddsNone old new
look-adds stands_for numbers answer found old new v = adds-none (λ s t. Looks stands_for numbers s answer found t) old new v (look-history stands_for numbers v.found v.left answer found v.acts)

-- ---- a book on which nobody else acts

-- what one call left is what the next one finds
pub next-finds : (first second : State → State → Type 0) (old mid new : Caller) (build : Option Build) → old.alone ≡ Some build → (v : IsEvent first old mid) → (w : IsEvent second mid new) → (w.found.build ≡ v.left.build) × (w.found.history ≡ v.left.history)
next-finds first second old mid new build alone v w =
    let now : mid.alone ≡ Some v.left.build = v.alone ∙ ap (λ (a : Option (Option Build)). alone_after a v.left.build) alone in
    let u = some_of (λ (b : Option Build). (w.found.build ≡ b) × (w.found.history ≡ mid.front)) mid.alone v.left.build now w.untouched in
    (u.0, u.1 ∙ v.front)
