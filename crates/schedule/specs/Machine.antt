-- A book and its callers as a small machine: what a step does, and what it answers (our own).
use Rattle.std.specs.Prelude.{◌≡◌, ℕ, zero, suc, ◌+◌, ◌<◌, ◌≤◌, List, [], ◌∷◌, ◌++◌, length, slice_index_or, slice_set, Option, Some, None, Result, Ok, Err, IsSome}
use Rattle.std.specs.Arc.{arc_value}
use Rattle.osv_prim.specs.declared.oid.CommitRow.{CommitRow}
use Rattle.osv_prim.specs.declared.subject.Subject.{Subject}
use Rattle.osv_record.specs.Advisories.{Advisory}
use Rattle.commit_graph.specs.declared.fault.GraphFault.{GraphFault}
use Rattle.commit_graph.specs.Extended.{extended}
use Rattle.history.specs.Entries.{imports, newest, snap, IsAhead, IsKept, IsGone, oldest_kept}
use Rattle.history.specs.Prefixes.{grows, graph}
use Rattle.book_model.specs.declared.answers.CallersSpent as numbers
use Rattle.book_model.specs.declared.answers.ImportFault.TheVariants as import_faults
use Rattle.book_model.specs.declared.answers.GrowFault.TheVariants as grow_faults
use Rattle.book_model.specs.declared.answers.Pulled.TheVariants as pulled
use Rattle.book_model.specs.declared.answers.Taken.TheVariants as taken
use Rattle.book_model.specs.declared.answers.Progress.TheVariants as progress
use Rattle.book_model.specs.State.{State}
use Rattle.book_model.specs.Jobs.{JobName, Outcome}
use Rattle.book_model.specs.Steps.{Enrols, Imports, Grows, Pulls, Takes, Finishes, GivesBack}
use Rattle.snapshot.specs.Pages.{page, page_seen}
use Rattle.schedule.specs.declared.step.Step.{Step}
use Rattle.schedule.specs.declared.step.Step.TheVariants.{Enrol, Import, Grow, Pull, Take, Work, Back, Look}
use Rattle.schedule.specs.declared.step.Answer.{Answer}
use Rattle.schedule.specs.declared.step.Answer.TheVariants.{Caller, Entry, Got, Reached, Out, Nothing, Going, Published, Page, Gone, Ahead, Refused}
use Rattle.schedule.specs.declared.step.PlayFault.TheVariants.{NoCaller, HasJob, NoJob, Graph, Full, CallersSpent}

-- a book's state, and the job that each caller has, by its number
pub record Machine : Type 0 where
  pub book : State
  pub jobs : List (Option JobName)

-- so many callers without a job
abbrev pub none_of : {X : Type 0} → ℕ → List (Option X)
none_of zero = []
none_of (suc callers) = None ∷ none_of callers

abbrev pub idle : State → Machine
idle s = record { book = s; jobs = none_of s.callers }

abbrev pub job_of : Machine → ℕ → Option JobName
job_of m by = slice_index_or m.jobs by None

-- the caller's number was given, and the book does this
abbrev pub ByCaller : ℕ → Machine → Type 0 → Type 0
ByCaller by m does = (by < m.book.callers) × does

-- nobody's job changes
abbrev pub IsCall : (State → State → Type 0) → Machine → Machine → Type 0
IsCall does m t = does m.book t.book × (t.jobs ≡ m.jobs)

-- a further caller has no job
abbrev pub IsFurther : (State → State → Type 0) → Machine → Machine → Type 0
IsFurther does m t = does m.book t.book × (t.jobs ≡ m.jobs ++ None ∷ [])

-- the caller's number was not given, and nothing happens
abbrev pub IsNobody : ℕ → Machine → Machine → Type 0
IsNobody by m t = (m.book.callers ≤ by) × (t ≡ m)

-- ---- what each step does; jobs stand here for their names

abbrev pub DoesEnrol : Machine → Answer → Machine → Type 0
DoesEnrol m (Caller number) t = IsFurther (λ s u. Enrols s (Ok number) u) m t
DoesEnrol m (Refused CallersSpent) t = (e : numbers.CallersSpent) × IsCall (λ s u. Enrols s (Err e) u) m t
DoesEnrol m answer t = ⊥

abbrev pub DoesImport : ℕ → Advisory → Machine → Answer → Machine → Type 0
DoesImport by advisory m (Entry place) t = ByCaller by m (IsCall (λ s u. Imports by advisory s (Ok place) u) m t)
DoesImport by advisory m (Refused (Full used limit)) t = ByCaller by m (IsCall (λ s u. Imports by advisory s (Err (import_faults.JournalFull used limit)) u) m t)
DoesImport by advisory m (Refused NoCaller) t = IsNobody by m t
DoesImport by advisory m answer t = ⊥

-- the graph of the repository with the rows, or the first faulty row
abbrev pub grown_graph : State → List ℕ → List CommitRow → Result (List CommitRow) GraphFault
grown_graph s key rows = extended (graph s.history key) s.settings.commits rows

abbrev pub DoesGrow : ℕ → List ℕ → List CommitRow → Machine → Answer → Machine → Type 0
DoesGrow by key rows m (Entry place) t =
    ByCaller by m ((g : List CommitRow) × (grown_graph m.book key rows ≡ Ok g) × IsCall (λ s u. Grows by key (grows s.history key) g s (Ok place) u) m t)
DoesGrow by key rows m (Refused (Full used limit)) t =
    ByCaller by m ((g : List CommitRow) × (grown_graph m.book key rows ≡ Ok g) × IsCall (λ s u. Grows by key (grows s.history key) g s (Err (grow_faults.JournalFull used limit)) u) m t)
DoesGrow by key rows m (Refused (Graph fault)) t = ByCaller by m ((grown_graph m.book key rows ≡ Err fault) × (t ≡ m))
DoesGrow by key rows m (Refused NoCaller) t = IsNobody by m t
DoesGrow by key rows m answer t = ⊥

-- a caller with a job gets none
abbrev pub IsBusy : ℕ → Machine → Machine → Type 0
IsBusy by m t = IsSome (job_of m by) × (t ≡ m)

-- the caller has no job yet, and has this one then
pub record Gets (by : ℕ) (m : Machine) (job : JobName) (t : Machine) : Type 0 where
  pub before : job_of m by ≡ None
  pub after : t.jobs ≡ slice_set m.jobs by (Some job)

abbrev pub DoesPull : ℕ → Machine → Answer → Machine → Type 0
DoesPull by m (Reached snapshot upto) t =
    ByCaller by m ((job_of m by ≡ None) × IsCall (λ s u. Pulls (λ n. n) (λ n b p. Unit {0}) by (length (imports s.history)) s (Ok (pulled.Reached snapshot upto)) u) m t)
DoesPull by m Got t =
    ByCaller by m ((job : JobName) × Gets by m job t × Pulls (λ n. n) (λ n b p. Unit {0}) by (length (imports m.book.history)) m.book (Ok (pulled.Job job)) t.book)
DoesPull by m (Out out) t =
    ByCaller by m ((job_of m by ≡ None) × IsCall (λ s u. Pulls (λ n. n) (λ n b p. Unit {0}) by (length (imports s.history)) s (Ok (pulled.Out out)) u) m t)
DoesPull by m (Refused HasJob) t = ByCaller by m (IsBusy by m t)
DoesPull by m (Refused NoCaller) t = IsNobody by m t
DoesPull by m answer t = ⊥

abbrev pub DoesTake : ℕ → Machine → Answer → Machine → Type 0
DoesTake by m Got t = ByCaller by m ((job : JobName) × Gets by m job t × Takes (λ n. n) (λ n b p. Unit {0}) by m.book (Ok (taken.Job job)) t.book)
DoesTake by m (Nothing out) t = ByCaller by m ((job_of m by ≡ None) × IsCall (λ s u. Takes (λ n. n) (λ n b p. Unit {0}) by s (Ok (taken.Nothing out)) u) m t)
DoesTake by m (Refused HasJob) t = ByCaller by m (IsBusy by m t)
DoesTake by m (Refused NoCaller) t = IsNobody by m t
DoesTake by m answer t = ⊥

-- a caller without a job hands none in
abbrev pub IsIdle : ℕ → Machine → Machine → Type 0
IsIdle by m t = (job_of m by ≡ None) × (t ≡ m)

-- the caller had this job, and has none then
pub record Spends (by : ℕ) (m : Machine) (job : JobName) (t : Machine) : Type 0 where
  pub before : job_of m by ≡ Some job
  pub after : t.jobs ≡ slice_set m.jobs by None

abbrev pub DoesWork : ℕ → Machine → Answer → Machine → Type 0
DoesWork by m Going t = ByCaller by m ((done : Outcome) × Spends by m done.job t × Finishes by done m.book (Ok progress.Going) t.book)
DoesWork by m (Published snapshot) t =
    ByCaller by m ((done : Outcome) × (entry : ℕ) × Spends by m done.job t × Finishes by done m.book (Ok (progress.Published entry snapshot)) t.book)
DoesWork by m (Refused NoJob) t = ByCaller by m (IsIdle by m t)
DoesWork by m (Refused NoCaller) t = IsNobody by m t
DoesWork by m answer t = ⊥

abbrev pub DoesBack : ℕ → Machine → Answer → Machine → Type 0
DoesBack by m Going t = ByCaller by m ((job : JobName) × Spends by m job t × GivesBack {U = Unit {0}} by job m.book (Ok tt) t.book)
DoesBack by m (Refused NoJob) t = ByCaller by m (IsIdle by m t)
DoesBack by m (Refused NoCaller) t = IsNobody by m t
DoesBack by m answer t = ⊥

-- the snapshot that is asked for is the newest, or the one that is named, which is kept
abbrev pub IsAsked : Option ℕ → State → ℕ → Type 0
IsAsked None s number = number ≡ newest s.history
IsAsked (Some named) s number = (number ≡ named) × IsKept s.settings.keep s.history named

abbrev pub DoesLook : ℕ → Subject → Option ℕ → Option (List ℕ) → Machine → Answer → Machine → Type 0
DoesLook by subject named after m (Page found) t =
    ByCaller by m ((number : ℕ) × IsAsked named m.book number × (page_seen found ≡ page (snap m.book.history number) subject after m.book.settings.page) × (t ≡ m))
DoesLook by subject (Some named) after m (Gone oldest) t =
    ByCaller by m (IsGone m.book.settings.keep m.book.history named × (oldest ≡ oldest_kept m.book.settings.keep m.book.history) × (t ≡ m))
DoesLook by subject (Some named) after m (Ahead now) t = ByCaller by m (IsAhead m.book.history named × (now ≡ newest m.book.history) × (t ≡ m))
DoesLook by subject named after m (Refused NoCaller) t = IsNobody by m t
DoesLook by subject named after m answer t = ⊥

abbrev pub Does : Step → Machine → Answer → Machine → Type 0
Does Enrol m answer t = DoesEnrol m answer t
Does (Import by advisory) m answer t = DoesImport by (arc_value advisory) m answer t
Does (Grow by key rows) m answer t = DoesGrow by key rows m answer t
Does (Pull by) m answer t = DoesPull by m answer t
Does (Take by) m answer t = DoesTake by m answer t
Does (Work by) m answer t = DoesWork by m answer t
Does (Back by) m answer t = DoesBack by m answer t
Does (Look by subject named after) m answer t = DoesLook by subject named after m answer t

-- ---- lists of steps

-- one after another
abbrev pub Plays : List Step → Machine → List Answer → Machine → Type 0
Plays [] m [] t = t ≡ m
Plays (step ∷ list) m (answer ∷ answers) t = (mid : Machine) × Does step m answer mid × Plays list mid answers t
Plays [] m (answer ∷ answers) t = ⊥
Plays (step ∷ list) m [] t = ⊥

-- after the last step the jobs that are still out are free again, those of the callers from this number on in turn
abbrev pub EndsFrom : ℕ → List (Option JobName) → State → State → Type 0
EndsFrom by [] s t = t ≡ s
EndsFrom by (None ∷ jobs) s t = EndsFrom (by + 1) jobs s t
EndsFrom by (Some job ∷ jobs) s t = (mid : State) × GivesBack {U = Unit {0}} by job s (Ok tt) mid × EndsFrom (by + 1) jobs mid t

abbrev pub IsPlayed : List Step → State → List Answer → State → Type 0
IsPlayed list s answers t = (m : Machine) × Plays list (idle s) answers m × EndsFrom 0 m.jobs m.book t
