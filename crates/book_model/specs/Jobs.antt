-- What jobs are called, and what they hold (our own).
use Rattle.std.specs.Prelude.{◌≡◌, ℕ, ◌+◌, ◌-◌, Bool, false, ◌&&◌, ◌==◌, if◌then◌else◌, List, take, slice_index_or, Option, Some, None}
use Rattle.std.specs.List.{list_any}
use Rattle.history.specs.declared.past.Past.{Past}
use Rattle.history.specs.Entries.{History, imports, newest, snap}
use Rattle.history.specs.Conditions.{IsWithin}
use Rattle.book_model.specs.State.{Kind, Cell, Done, Build, State, is_kind, is_out, holder}

-- ---- names

-- A job by its name: the number of the snapshot that its build is to make, how many imports that is of, the kind, and the number among the jobs of that kind, which is 0 for a plan and an assembly.
pub record JobName : Type 0 where
  pub build : ℕ
  pub upto : ℕ
  pub kind : Kind
  pub number : ℕ

-- what was done: the job, and after a plan where each of the pieces is that it planned
pub record Outcome : Type 0 where
  pub job : JobName
  pub cells : List Cell

-- the job with this number of the build that is open
abbrev pub name_in : History → Build → ℕ → JobName
name_in h b number = record { build = newest h + 1; upto = b.upto; kind = b.phase; number = number }

-- the job is one of the build that is to make this snapshot
abbrev pub is_of : Build → ℕ → JobName → Bool
is_of b next job = (job.build == next) && ((job.upto == b.upto) && is_kind job.kind b.phase)

-- the caller that has the job
abbrev pub owner_in : Option Build → ℕ → JobName → Option ℕ
owner_in None next job = None
owner_in (Some b) next job = if is_of b next job then holder (slice_index_or b.cells job.number Done) else None

abbrev pub owner : State → JobName → Option ℕ
owner s job = owner_in s.build (newest s.history + 1) job

-- ---- what is held

-- A value that was made in a build stands for what it is to stand for, which is said of two lists: the imports of the snapshot before the build's, and the imports that the build is of.
pub record StandsIn (stands_for : List Past → List Past → Type 0) (build upto : ℕ) (h : History) : Type 0 where
  pub within : IsWithin build upto h
  pub stands : stands_for (snap h (build - 1)) (take upto (imports h))

-- the job is that of its name
abbrev pub JobHolds : {J : Type 0} → (J → JobName) → (J → List Past → List Past → Type 0) → J → History → Type 0
JobHolds name is_job job h = StandsIn (is_job job) (name job).build (name job).upto h

-- it is what its job was to give, and after a plan nobody has a piece yet
pub record FinishedHolds {F : Type 0} (outcome : F → Outcome) (is_done : F → List Past → List Past → Type 0) (finished : F) (h : History) : Type 0 where
  pub stands : StandsIn (is_done finished) (outcome finished).job.build (outcome finished).job.upto h
  pub free : list_any is_out (outcome finished).cells ≡ false
