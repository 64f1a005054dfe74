-- What each call of a book does: of who calls, the arguments, the state before, the answer and the state after (our own). The cases of an answer say exactly when it comes; want of memory alone comes when it will.
use Rattle.std.specs.Prelude.{◌≡◌, ◌≢◌, ℕ, ◌+◌, ◌^◌, ◌<◌, ◌≤◌, List, [], ◌∷◌, length, drop, slice_set, Option, Some, None, Result, Ok, Err, IsSomeAnd}
use Rattle.osv_prim.specs.declared.memory.Memory.{Memory}
use Rattle.osv_prim.specs.declared.oid.CommitRow.{CommitRow}
use Rattle.osv_record.specs.Advisories.{Advisory}
use Rattle.turn_lock.specs.declared.note.Noted.{Noted}
use Rattle.history.specs.declared.past.Past.{Past}
use Rattle.history.specs.declared.past.Past.TheVariants.{Import, Grow, Publish}
use Rattle.history.specs.Entries.{History, imports, newest, snap, IsAhead, IsKept, IsGone, oldest_kept, weight, entry_weight}
use Rattle.history.specs.Prefixes.{grows, graph}
use Rattle.book_model.specs.declared.answers.CallersSpent.{CallersSpent}
use Rattle.book_model.specs.declared.answers.ImportFault.{ImportFault}
use Rattle.book_model.specs.declared.answers.ImportFault.TheVariants as import_faults
use Rattle.book_model.specs.declared.answers.GrowFault.{GrowFault}
use Rattle.book_model.specs.declared.answers.GrowFault.TheVariants as grow_faults
use Rattle.book_model.specs.declared.answers.Pulled.{Pulled}
use Rattle.book_model.specs.declared.answers.Pulled.TheVariants as pulled
use Rattle.book_model.specs.declared.answers.Taken.{Taken}
use Rattle.book_model.specs.declared.answers.Taken.TheVariants as taken
use Rattle.book_model.specs.declared.answers.Progress.{Progress}
use Rattle.book_model.specs.declared.answers.Progress.TheVariants as progress
use Rattle.book_model.specs.declared.answers.Strange.{Strange}
use Rattle.book_model.specs.declared.answers.Newest.{Newest}
use Rattle.book_model.specs.declared.answers.Kept.{Kept}
use Rattle.book_model.specs.declared.answers.Kept.TheVariants as kept
use Rattle.book_model.specs.State.{Kind, Plan, Piece, Assemble, Cell, Free, OutTo, Done, Build, State, first_free, out_count, opened, filled, moved, cells_in, published, with_entry, with_build, noted}
use Rattle.book_model.specs.Jobs.{JobName, Outcome, name_in, owner, JobHolds}

-- ---- callers

-- a further caller gets the next number; none is left where 2^63 were given
abbrev pub Enrols : State → Result ℕ CallersSpent → State → Type 0
Enrols old (Ok number) new = (number ≡ old.callers) × (old.callers < 2 ^ 63) × (new ≡ record old { callers = old.callers + 1 })
Enrols old (Err spent) new = (old.callers ≡ 2 ^ 63) × (new ≡ noted old Noted.CallersSpent 0 (2 ^ 63) None)

-- ---- imports

-- the entry is within the limit
abbrev pub HasRoom : State → Past → Type 0
HasRoom s e = weight s.history + entry_weight e ≤ s.settings.weight

-- it is not, and the refusal tells of both numbers
abbrev pub IsFull : State → Past → ℕ → ℕ → Type 0
IsFull s e used limit = (s.settings.weight < weight s.history + entry_weight e) × (used ≡ weight s.history) × (limit ≡ s.settings.weight)

-- the entry was put at the end, at the place that is answered
abbrev pub Appends : State → Past → ℕ → State → Type 0
Appends old e place new = HasRoom old e × (place ≡ length old.history) × (new ≡ with_entry old e)

abbrev pub Imports : ℕ → Advisory → State → Result ℕ ImportFault → State → Type 0
Imports by advisory old (Ok place) new = Appends old (Import by advisory) place new
Imports by advisory old (Err (import_faults.JournalFull used limit)) new = IsFull old (Import by advisory) used limit × (new ≡ old)
Imports by advisory old (Err import_faults.Memory) new = HasRoom old (Import by advisory) × (new ≡ old)

-- how many imports there are
abbrev pub CountsImports : State → ℕ → State → Type 0
CountsImports old count new = (count ≡ length (imports old.history)) × (new ≡ old)

-- ---- graphs

-- how many Grows a repository has, and its graph; `rows` are those that a value of G has
abbrev pub ShowsRepo : {G : Type 0} → (G → List CommitRow) → List ℕ → State → Result (ℕ × G) Memory → State → Type 0
ShowsRepo rows key old (Ok found) new = (found.0 ≡ grows old.history key) × (rows found.1 ≡ graph old.history key) × (new ≡ old)
ShowsRepo rows key old (Err memory) new = new ≡ old

-- the rows that the repository lacks of a graph that begins with its own
abbrev pub grown_by : ℕ → List ℕ → List CommitRow → History → Past
grown_by by key rows h = Grow by key (drop (length (graph h key)) rows)

-- rows that were made over the first so many Grows of a repository
abbrev pub Grows : ℕ → List ℕ → ℕ → List CommitRow → State → Result ℕ GrowFault → State → Type 0
Grows by key version rows old (Ok place) new = (version ≡ grows old.history key) × Appends old (grown_by by key rows old.history) place new
Grows by key version rows old (Err (grow_faults.RepoMoved seen now)) new = (version ≢ grows old.history key) × (seen ≡ version) × (now ≡ grows old.history key) × (new ≡ old)
Grows by key version rows old (Err (grow_faults.JournalFull used limit)) new = (version ≡ grows old.history key) × IsFull old (grown_by by key rows old.history) used limit × (new ≡ old)
Grows by key version rows old (Err grow_faults.Memory) new = (version ≡ grows old.history key) × HasRoom old (grown_by by key rows old.history) × (new ≡ old)

-- ---- snapshots; `stands_for` says of which imports a value of S is a snapshot

-- what a snapshot's number finds
abbrev pub Finds : {S : Type 0} → (S → List Past → Type 0) → State → ℕ → Kept S → Type 0
Finds stands_for s number (kept.Here snapshot) = IsKept s.settings.keep s.history number × stands_for snapshot (snap s.history number)
Finds stands_for s number (kept.Gone oldest) = IsGone s.settings.keep s.history number × (oldest ≡ oldest_kept s.settings.keep s.history)
Finds stands_for s number (kept.Ahead now) = IsAhead s.history number × (now ≡ newest s.history)

-- one for each number, in order
abbrev pub FindsEach : {S : Type 0} → (S → List Past → Type 0) → State → List ℕ → List (Kept S) → Type 0
FindsEach stands_for s [] [] = Unit {0}
FindsEach stands_for s (number ∷ numbers) (found ∷ more) = Finds stands_for s number found × FindsEach stands_for s numbers more
FindsEach stands_for s [] (found ∷ more) = ⊥
FindsEach stands_for s (number ∷ numbers) [] = ⊥

-- the newest snapshot, and what each number finds
abbrev pub Looks : {S : Type 0} → (S → List Past → Type 0) → List ℕ → State → Result (Newest S) Memory → List (Kept S) → State → Type 0
Looks stands_for numbers old (Ok now) found new = (now.number ≡ newest old.history) × stands_for now.snapshot (snap old.history (newest old.history)) × FindsEach stands_for old numbers found × (new ≡ old)
Looks stands_for numbers old (Err memory) found new = (found ≡ []) × (new ≡ old)

-- ---- jobs; `name` and `is_job` say what a value of J is called, and for which imports it is the job of its name

-- the first free job of the build went out to the caller
pub record GoesOut {J : Type 0} (name : J → JobName) (is_job : J → List Past → List Past → Type 0) (by : ℕ) (old : State) (b : Build) (job : J) (new : State) : Type 0 where
  pub free : first_free b.cells ≡ Some (name job).number
  pub called : name job ≡ name_in old.history b (name job).number
  pub holds : JobHolds name is_job job old.history
  pub left : new ≡ with_build old (Some (moved b (name job).number (OutTo by)))

-- the build that is open, or one over all imports
abbrev pub build_for : State → Option Build → Build
build_for s None = opened (length (imports s.history))
build_for s (Some b) = b

-- the caller wants a snapshot of at least the first `goal` imports
abbrev pub Pulls : {J : Type 0} → (J → JobName) → (J → List Past → List Past → Type 0) → ℕ → ℕ → State → Result (Pulled J) Memory → State → Type 0
Pulls name is_job by goal old (Ok (pulled.Reached snapshot upto)) new = (goal ≤ published old.history) × (snapshot ≡ newest old.history) × (upto ≡ published old.history) × (new ≡ old)
Pulls name is_job by goal old (Ok (pulled.Job job)) new = (published old.history < goal) × GoesOut name is_job by old (build_for old old.build) job new
Pulls name is_job by goal old (Ok (pulled.Out out)) new =
    (published old.history < goal) × (first_free (build_for old old.build).cells ≡ None) × (out ≡ out_count (build_for old old.build).cells) × (new ≡ noted old Noted.Out by out None)
Pulls name is_job by goal old (Err memory) new = new ≡ old

-- the caller asks for work
abbrev pub Takes : {J : Type 0} → (J → JobName) → (J → List Past → List Past → Type 0) → ℕ → State → Result (Taken J) Memory → State → Type 0
Takes name is_job by old (Ok (taken.Job job)) new = IsSomeAnd old.build (λ b. GoesOut name is_job by old b job new)
Takes name is_job by old (Ok (taken.Nothing out)) new = (first_free (cells_in old.build) ≡ None) × (out ≡ out_count (cells_in old.build)) × (new ≡ noted old Noted.Nothing by out None)
Takes name is_job by old (Err memory) new = new ≡ old

-- the job isn't out to the caller: its value is dropped, and the book tells who has it
abbrev pub IsStrange : ℕ → JobName → State → Strange → State → Type 0
IsStrange by job old e new = (owner old job ≢ Some by) × (e.build ≡ job.build) × (e.owner ≡ owner old job) × (new ≡ noted old Noted.Strange by job.build (owner old job))

-- a plan was done, or a piece
abbrev pub GoesOn : Kind → Outcome → State → State → Type 0
GoesOn Plan done old new = new ≡ with_build old (Some (filled done.job.upto done.cells))
GoesOn Piece done old new = new ≡ with_build old (Some (filled done.job.upto (slice_set (cells_in old.build) done.job.number Done)))
GoesOn Assemble done old new = ⊥

-- the snapshot was assembled: it is published, and no build is open
abbrev pub Publishes : Kind → ℕ → Outcome → State → ℕ → ℕ → State → Type 0
Publishes Plan by done old entry snapshot new = ⊥
Publishes Piece by done old entry snapshot new = ⊥
Publishes Assemble by done old entry snapshot new = (entry ≡ length old.history) × (snapshot ≡ newest old.history + 1) × (new ≡ with_build (with_entry old (Publish by done.job.upto)) None)

-- the caller hands in what it did
abbrev pub Finishes : ℕ → Outcome → State → Result Progress Strange → State → Type 0
Finishes by done old (Ok progress.Going) new = (owner old done.job ≡ Some by) × GoesOn done.job.kind done old new
Finishes by done old (Ok (progress.Published entry snapshot)) new = (owner old done.job ≡ Some by) × Publishes done.job.kind by done old entry snapshot new
Finishes by done old (Err e) new = IsStrange by done.job old e new

-- the build with this job free again
abbrev pub freed : JobName → List Cell → Build
freed job cells = record { upto = job.upto; phase = job.kind; cells = slice_set cells job.number Free }

-- the caller hands back a job that it didn't do
abbrev pub GivesBack : {U : Type 0} → ℕ → JobName → State → Result U Strange → State → Type 0
GivesBack by job old (Ok done) new = (owner old job ≡ Some by) × (new ≡ with_build old (Some (freed job (cells_in old.build))))
GivesBack by job old (Err e) new = IsStrange by job old e new
