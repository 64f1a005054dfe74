-- The jobs that callers have while steps are played (our own).
use Rattle.std.specs.Prelude.{◌≡◌, ℕ, List, length, map, option_map, slice_index_or, Option, Some, None, Ok}
use Rattle.book_model.specs.State.{State}
use Rattle.book_model.specs.Jobs.{owner, JobHolds}
use Rattle.book_model.specs.Steps.{GivesBack}
use Rattle.snapshot.specs.declared.job.Job.{Job}
use Rattle.snapshot.specs.Jobs.{name, IsJob}
use Rattle.schedule.specs.Machine.{Machine}

abbrev pub machine : State → List (Option Job) → Machine
machine s held = record { book = s; jobs = map (λ job. option_map name job) held }

-- the job is out to the caller, and what it holds is of the book's history
abbrev pub IsHeld : State → ℕ → Job → Type 0
IsHeld s by job = (owner s (name job) ≡ Some by) × JobHolds name IsJob job s.history

-- what is held by each caller, by its number
pub record IsHolding (s : State) (held : List (Option Job)) : Type 0 where
  pub long : length held ≡ s.callers
  pub each : (by : ℕ) (job : Job) → slice_index_or held by None ≡ Some job → IsHeld s by job

-- after the last step a caller's job is free again
abbrev pub EndsOne : ℕ → Option Job → State → State → Type 0
EndsOne by None s t = t ≡ s
EndsOne by (Some job) s t = GivesBack {U = Unit {0}} by (name job) s (Ok tt) t
