-- What each step leaves of the history, the count of callers and the settings.
use Rattle.std.proofs.Common.{◌≡◌, inl, inr, ℕ, suc, ◌+◌, ◌^◌, List, [], ◌∷◌, ◌++◌, refl, sym, ap, ◌∙◌, arith}
use Rattle.std.specs.Prelude.{Option, Some, None, Result, Ok, Err, IsSomeAnd}
use Rattle.std.proofs.lemmas.List.{append-nil}
use Rattle.std.proofs.lemmas.List.Elements.{All-nil, All-cons}
use Rattle.osv_prim.specs.declared.memory.Memory.{Memory}
use Rattle.osv_prim.specs.declared.oid.CommitRow.{CommitRow}
use Rattle.osv_record.specs.Advisories.{Advisory}
use Rattle.turn_lock.specs.declared.note.Noted.{Noted}
use Rattle.history.specs.declared.past.Past.{Past}
use Rattle.history.specs.declared.past.Past.TheVariants.{Import, Publish}
use Rattle.history.specs.Entries.{caller}
use Rattle.book_model.specs.declared.answers.CallersSpent.{CallersSpent}
use Rattle.book_model.specs.declared.answers.ImportFault.{ImportFault}
use Rattle.book_model.specs.declared.answers.ImportFault.TheVariants as import_faults
use Rattle.book_model.specs.declared.answers.GrowFault.{GrowFault}
use Rattle.book_model.specs.declared.answers.GrowFault.TheVariants as grow_faults
use Rattle.book_model.specs.declared.answers.Pulled.{Pulled}
use Rattle.book_model.specs.declared.answers.Pulled.TheVariants as pulled
use Rattle.book_model.specs.declared.answers.Taken.{Taken}
use Rattle.book_model.specs.declared.answers.Taken.TheVariants as taken
use Rattle.book_model.specs.declared.answers.Progress.{Progress}
use Rattle.book_model.specs.declared.answers.Progress.TheVariants as progress
use Rattle.book_model.specs.declared.answers.Strange.{Strange}
use Rattle.book_model.specs.State.{Kind, Plan, Piece, Assemble, Build, State, with_build, noted}
use Rattle.book_model.specs.Jobs.{JobName, Outcome}
use Rattle.book_model.specs.Steps.{Enrols, Imports, grown_by, Grows, GoesOut, Pulls, Takes, IsStrange, GoesOn, Publishes, Finishes, GivesBack}
use Rattle.book_model.specs.Sound.{Keeps}

-- ---- parts of a state

-- the same history, callers and settings
keeps-like : (by : ℕ) (old new : State) → new.history ≡ old.history → new.callers ≡ old.callers → new.settings ≡ old.settings → Keeps by old new
keeps-like by old new h c s = record { grown = ([], append-nil old.history ∙ sym h, All-nil (λ (e : Past). caller e ≡ by)); counts = inl c; settings = s }

pub keeps-same : (by : ℕ) (old new : State) → new ≡ old → Keeps by old new
keeps-same by old new e = keeps-like by old new (ap (λ (s : State). s.history) e) (ap (λ (s : State). s.callers) e) (ap (λ (s : State). s.settings) e)

keeps-noted : (by : ℕ) (old new : State) (kind : Noted) (who number : ℕ) (o : Option ℕ) → new ≡ noted old kind who number o → Keeps by old new
keeps-noted by old new kind who number o e = keeps-like by old new (ap (λ (s : State). s.history) e) (ap (λ (s : State). s.callers) e) (ap (λ (s : State). s.settings) e)

keeps-build : (by : ℕ) (old new : State) (b : Option Build) → new ≡ with_build old b → Keeps by old new
keeps-build by old new b e = keeps-like by old new (ap (λ (s : State). s.history) e) (ap (λ (s : State). s.callers) e) (ap (λ (s : State). s.settings) e)

keeps-entry : (by : ℕ) (old new : State) (e : Past) → caller e ≡ by → new.history ≡ old.history ++ e ∷ [] → new.callers ≡ old.callers → new.settings ≡ old.settings → Keeps by old new
keeps-entry by old new e is h c s = record { grown = (e ∷ [], sym h, All-cons (λ (x : Past). caller x ≡ by) e [] is (All-nil (λ (x : Past). caller x ≡ by))); counts = inl c; settings = s }

-- ---- the steps

pub enrols-keeps : (by : ℕ) (old new : State) (answer : Result ℕ CallersSpent) → Enrols old answer new → Keeps by old new
enrols-keeps by old new (Ok number) st =
    let more : old.callers + 1 ≡ suc old.callers = omega arith in
    record {
      grown = ([], append-nil old.history ∙ sym (ap (λ (s : State). s.history) st.2), All-nil (λ (e : Past). caller e ≡ by));
      counts = inr (ap (λ (s : State). s.callers) st.2 ∙ more);
      settings = ap (λ (s : State). s.settings) st.2;
    }
enrols-keeps by old new (Err spent) st = keeps-noted by old new Noted.CallersSpent 0 (2 ^ 63) None st.1

pub imports-keeps : (by : ℕ) (advisory : Advisory) (old new : State) (answer : Result ℕ ImportFault) → Imports by advisory old answer new → Keeps by old new
imports-keeps by advisory old new (Ok place) st =
    keeps-entry by old new (Import by advisory) refl (ap (λ (s : State). s.history) st.2) (ap (λ (s : State). s.callers) st.2) (ap (λ (s : State). s.settings) st.2)
imports-keeps by advisory old new (Err (import_faults.JournalFull used limit)) st = keeps-same by old new st.1
imports-keeps by advisory old new (Err import_faults.Memory) st = keeps-same by old new st.1

pub grows-keeps : (by : ℕ) (key : List ℕ) (version : ℕ) (rows : List CommitRow) (old new : State) (answer : Result ℕ GrowFault) → Grows by key version rows old answer new → Keeps by old new
grows-keeps by key version rows old new (Ok place) st =
    keeps-entry by old new (grown_by by key rows old.history) refl (ap (λ (s : State). s.history) st.1.2) (ap (λ (s : State). s.callers) st.1.2) (ap (λ (s : State). s.settings) st.1.2)
grows-keeps by key version rows old new (Err (grow_faults.RepoMoved seen now)) st = keeps-same by old new st.3
grows-keeps by key version rows old new (Err (grow_faults.JournalFull used limit)) st = keeps-same by old new st.2
grows-keeps by key version rows old new (Err grow_faults.Memory) st = keeps-same by old new st.2

pub pulls-keeps : {J : Type 0} (name : J → JobName) (is_job : J → List Past → List Past → Type 0) (by goal : ℕ) (old new : State) (answer : Result (Pulled J) Memory) → Pulls name is_job by goal old answer new → Keeps by old new
pulls-keeps name is_job by goal old new (Ok (pulled.Reached snapshot upto)) st = keeps-same by old new st.3
pulls-keeps name is_job by goal old new (Ok (pulled.Job job)) st = keeps-build by old new _ st.1.left
pulls-keeps name is_job by goal old new (Ok (pulled.Out out)) st = keeps-noted by old new Noted.Out by out None st.3
pulls-keeps name is_job by goal old new (Err memory) st = keeps-same by old new st

takes_step : {J : Type 0} (name : J → JobName) (is_job : J → List Past → List Past → Type 0) (by : ℕ) (old new : State) (job : J) (build : Option Build) → IsSomeAnd build (λ b. GoesOut name is_job by old b job new) → Keeps by old new
takes_step name is_job by old new job None g = absurd g
takes_step name is_job by old new job (Some b) g = keeps-build by old new _ g.left

pub takes-keeps : {J : Type 0} (name : J → JobName) (is_job : J → List Past → List Past → Type 0) (by : ℕ) (old new : State) (answer : Result (Taken J) Memory) → Takes name is_job by old answer new → Keeps by old new
takes-keeps name is_job by old new (Ok (taken.Job job)) st = takes_step name is_job by old new job old.build st
takes-keeps name is_job by old new (Ok (taken.Nothing out)) st = keeps-noted by old new Noted.Nothing by out None st.2
takes-keeps name is_job by old new (Err memory) st = keeps-same by old new st

strange-keeps : (by : ℕ) (job : JobName) (old new : State) (e : Strange) → IsStrange by job old e new → Keeps by old new
strange-keeps by job old new e st = keeps-noted by old new _ _ _ _ st.3

goes_on_step : (k : Kind) (by : ℕ) (done : Outcome) (old new : State) → GoesOn k done old new → Keeps by old new
goes_on_step Plan by done old new g = keeps-build by old new _ g
goes_on_step Piece by done old new g = keeps-build by old new _ g
goes_on_step Assemble by done old new g = absurd g

publishes_step : (k : Kind) (by : ℕ) (done : Outcome) (old new : State) (entry snapshot : ℕ) → Publishes k by done old entry snapshot new → Keeps by old new
publishes_step Plan by done old new entry snapshot p = absurd p
publishes_step Piece by done old new entry snapshot p = absurd p
publishes_step Assemble by done old new entry snapshot p =
    keeps-entry by old new (Publish by done.job.upto) refl (ap (λ (s : State). s.history) p.2) (ap (λ (s : State). s.callers) p.2) (ap (λ (s : State). s.settings) p.2)

pub finishes-keeps : (by : ℕ) (done : Outcome) (old new : State) (answer : Result Progress Strange) → Finishes by done old answer new → Keeps by old new
finishes-keeps by done old new (Ok progress.Going) st = goes_on_step done.job.kind by done old new st.1
finishes-keeps by done old new (Ok (progress.Published entry snapshot)) st = publishes_step done.job.kind by done old new entry snapshot st.1
finishes-keeps by done old new (Err e) st = strange-keeps by done.job old new e st

pub gives_back-keeps : {U : Type 0} (by : ℕ) (job : JobName) (old new : State) (answer : Result U Strange) → GivesBack by job old answer new → Keeps by old new
gives_back-keeps by job old new (Ok done) st = keeps-build by old new _ st.1
gives_back-keeps by job old new (Err e) st = strange-keeps by job old new e st
