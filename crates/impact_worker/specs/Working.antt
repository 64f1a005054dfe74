-- What a caller that does jobs comes to (our own).
use Rattle.std.specs.Prelude.{◌≡◌, ℕ, ◌+◌, ◌<◌, ◌≤◌, min, false, List, ◌++◌, length, Option, Some, None, Result, Ok, Err, All}
use Rattle.std.specs.List.{list_any}
use Rattle.osv_prim.specs.declared.memory.Memory.{Memory}
use Rattle.turn_lock.specs.declared.note.Noted.{Noted}
use Rattle.turn_lock.specs.History.{saturating_next}
use Rattle.history.specs.declared.past.Past.{Past}
use Rattle.history.specs.Entries.{History, own}
use Rattle.book_model.specs.declared.answers.Taken.{Taken}
use Rattle.book_model.specs.declared.answers.Taken.TheVariants as taken
use Rattle.book_model.specs.State.{Build, is_out, cells_in}
use Rattle.book_model.specs.Desk.{Caller, CountsStay}
use Rattle.snapshot.specs.declared.job.Job.{Job}
use Rattle.session_model.specs.Alone.{IsAlone, StaysApart}
use Rattle.session_model.specs.Answers.{IsPublicationBy}
use Rattle.session_model.specs.Counts.{Raises, Rises}
use Rattle.session_model.specs.Runs.{Goes}
use Rattle.desk_calls.specs.Calls.{Given}
use Rattle.impact_worker.specs.declared.one.Came.{Came}
use Rattle.impact_worker.specs.declared.one.Came.TheVariants as came
use Rattle.impact_worker.specs.declared.drained.DrainEnd.{DrainEnd}
use Rattle.impact_worker.specs.declared.drained.DrainEnd.TheVariants as ends

-- all that came to the caller's own entries are publications, so many at most
pub record AddsPublications (most me : ℕ) (h now : History) : Type 0 where
  pub added : List (ℕ × Past)
  pub mine : own me now ≡ own me h ++ added
  pub few : length added ≤ most
  pub each : All (λ e. IsPublicationBy me e.1) added

-- So many jobs were got and handed in, each by a call of its own, and none stays with the caller.
pub record Works (did : ℕ) (old new : Caller) : Type 0 where
  pub goes : Goes old new
  pub adds : AddsPublications did old.me old.front new.front
  pub rises : Rises 0 did (did + did) old new
  -- and no more were handed in
  pub turns : new.turns ≤ old.turns + did
  pub busy : new.busy ≡ old.busy
  pub outs : new.outs ≡ old.outs
  pub apart : StaysApart old new

-- so many jobs, where the count of them ends at 2^64 - 1
abbrev pub Helped : ℕ → Caller → Caller → Type 0
Helped did old new = (all : ℕ) × Works all old new × (did ≡ min all 18446744073709551615)

-- beside the two calls for each of so many jobs there was one
abbrev pub AsksAgain : ℕ → Caller → Caller → Type 0
AsksAgain did old new = Raises (did + did + 1) old.last.turned new.last.turned

-- After so many jobs the last call was answered that there is none, and that so many are out. Where nobody else acts on the book and the caller had none, none is out and no build is open.
pub record FoundNothing (did out : ℕ) (old new : Caller) : Type 0 where
  pub asked : AsksAgain did old new
  pub told : new.last.left ≡ record { serial = saturating_next new.last.found.serial; number = out; by = old.me; owner = None; kind = Noted.Nothing }
  pub over : (build : Option Build) → old.alone ≡ Some build → list_any is_out (cells_in build) ≡ false → (out ≡ 0) × IsAlone new

-- why no more jobs were done, after so many
abbrev pub Ends : ℕ → ℕ → DrainEnd → Caller → Caller → Type 0
Ends most did (ends.Nothing out) old new = (did < most) × FoundNothing did out old new
Ends most did ends.Most old new = did ≡ most
Ends most did ends.Memory old new = (did < most) × AsksAgain did old new

-- ---- one job

-- what asking for a job comes to
abbrev pub TakenIs : Caller → Result (Taken Job) Memory → Caller → Type 0
TakenIs old (Ok (taken.Job job)) new = ((goal : ℕ) × Given old goal job new) × CountsStay old new
TakenIs old (Ok (taken.Nothing out)) new = Works 0 old new × FoundNothing 0 out old new
TakenIs old (Err memory) new = Works 0 old new × AsksAgain 0 old new

-- what comes of asking for one and doing it
abbrev pub Comes : Came → Caller → Caller → Type 0
Comes came.Did old new = Works 1 old new
Comes (came.Nothing out) old new = Works 0 old new × FoundNothing 0 out old new
Comes came.Memory old new = Works 0 old new × AsksAgain 0 old new
