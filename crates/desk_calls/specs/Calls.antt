-- What single calls of a desk come to for a session (our own).
use Rattle.std.specs.Prelude.{◌≡◌, ◌≢◌, ◌⊎◌, ℕ, ◌+◌, ◌<◌, ◌≤◌, false, List, [], ◌∷◌, length, Result, Ok, Err, IfSome}
use Rattle.std.specs.List.{list_any}
use Rattle.std.specs.Arc.{arc_value}
use Rattle.std.specs.declared.sync.Arc.{Arc}
use Rattle.osv_prim.specs.declared.memory.Memory.{Memory}
use Rattle.osv_record.specs.Advisories.{Advisory}
use Rattle.history.specs.declared.past.Past.TheVariants.{Import, Publish}
use Rattle.history.specs.Entries.{History, imports, newest, snap, upto_of, weight, entry_weight, IsKept, IsGone, IsAhead, oldest_kept}
use Rattle.history.specs.Legality.{marks}
use Rattle.book_model.specs.declared.answers.ImportFault.{ImportFault}
use Rattle.book_model.specs.declared.answers.ImportFault.TheVariants as import_faults
use Rattle.book_model.specs.declared.answers.Pulled.{Pulled}
use Rattle.book_model.specs.declared.answers.Pulled.TheVariants as pulled
use Rattle.book_model.specs.declared.answers.Kept.{Kept}
use Rattle.book_model.specs.declared.answers.Kept.TheVariants as kept
use Rattle.book_model.specs.declared.answers.Newest.{Newest}
use Rattle.book_model.specs.State.{Cell, is_out, cells_in}
use Rattle.book_model.specs.Jobs.{JobName, JobHolds}
use Rattle.book_model.specs.Desk.{Caller, saturating_sum}
use Rattle.snapshot.specs.declared.job.Job.{Job}
use Rattle.snapshot.specs.declared.snapshot.Snapshot.{Snapshot}
use Rattle.snapshot.specs.Jobs.{name, IsJob}
use Rattle.snapshot.specs.Snapshots.{StandsFor}
use Rattle.session_model.specs.Answers.{AddsNothing, AddsEntry}
use Rattle.session_model.specs.Alone.{IsAlone, HasNoJob, StaysApart}
use Rattle.session_model.specs.Counts.{Rises}
use Rattle.session_model.specs.Runs.{Goes}
use Rattle.desk_calls.specs.Alone.{OnlyOwn, HandsOut, ComesIn, ComesBack}
use Rattle.desk_calls.specs.declared.calls.Named.{Named}
use Rattle.desk_calls.specs.declared.calls.Found.{Found}

-- nothing of the caller's own was added
pub record Still (old new : Caller) : Type 0 where
  pub goes : Goes old new
  pub none : AddsNothing old.me old.front new.front
  pub apart : StaysApart old new
  pub front : HasNoJob old → IfSome old.alone (λ b. new.front ≡ old.front)

-- by one call at least, and no build was opened
pub record Quiet (old new : Caller) : Type 0 where
  pub still : Still old new
  pub rises : Rises 0 0 1 old new
  pub outs : new.outs ≡ old.outs
  pub alone : IsAlone old → IsAlone new

-- the same, but for the build
pub record Passes (old new : Caller) : Type 0 where
  pub goes : Goes old new
  pub none : AddsNothing old.me old.front new.front
  pub rises : Rises 0 0 1 old new
  pub outs : new.outs ≡ old.outs
  pub own : OnlyOwn old new

-- ---- imports

pub record Entered (old : Caller) (r : Advisory) (place : ℕ) (new : Caller) : Type 0 where
  pub goes : Goes old new
  pub rises : Rises 0 0 1 old new
  pub outs : new.outs ≡ old.outs
  pub adds : AddsEntry old.me (Import old.me r) place old.front new.front
  pub within : weight new.front ≤ old.settings.weight
  pub apart : StaysApart old new
  pub alone : IsAlone old → IsAlone new

pub record Full (old : Caller) (r : Advisory) (used limit : ℕ) (new : Caller) : Type 0 where
  pub quiet : Quiet old new
  pub used_is : used ≡ weight new.front
  pub limit_is : limit ≡ old.settings.weight
  pub passes : old.settings.weight < weight new.front + entry_weight (Import old.me r)

abbrev pub Imported : Caller → Advisory → Result ℕ ImportFault → Caller → Type 0
Imported old r (Ok place) new = Entered old r place new
Imported old r (Err (import_faults.JournalFull used limit)) new = Full old r used limit new
Imported old r (Err import_faults.Memory) new = Quiet old new

pub record Counted (old : Caller) (count : ℕ) (new : Caller) : Type 0 where
  pub quiet : Quiet old new
  pub least : length (imports old.front) ≤ count
  pub came : count ≤ length (imports new.front)

-- ---- snapshots

abbrev pub NewestIs : {Z : Type 0} → Caller → Result (Newest (Arc Snapshot Z)) Memory → Caller → Type 0
NewestIs old (Ok now) new = Quiet old new × (now.number ≡ newest new.front) × StandsFor (arc_value now.snapshot) (snap new.front (newest new.front))
NewestIs old (Err e) new = Quiet old new

-- what a number finds
abbrev pub Finds : {Z : Type 0} → ℕ → History → ℕ → Kept (Arc Snapshot Z) → Type 0
Finds keep h number (kept.Here snapshot) = IsKept keep h number × StandsFor (arc_value snapshot) (snap h number)
Finds keep h number (kept.Gone oldest) = IsGone keep h number × (oldest ≡ oldest_kept keep h)
Finds keep h number (kept.Ahead now) = IsAhead h number × (now ≡ newest h)

pub record KeptIs {Z : Type 0} (old : Caller) (number now : ℕ) (found : Kept (Arc Snapshot Z)) (new : Caller) : Type 0 where
  pub quiet : Quiet old new
  pub now_is : now ≡ newest new.front
  pub finds : Finds old.settings.keep new.front number found

-- what each of these numbers finds, in order
abbrev pub FindsAll : {Z : Type 0} → ℕ → History → List ℕ → List (Kept (Arc Snapshot Z)) → Type 0
FindsAll keep h [] [] = Unit {0}
FindsAll keep h (number ∷ numbers) (found ∷ more) = Finds keep h number found × FindsAll keep h numbers more
FindsAll keep h [] (found ∷ more) = ⊥
FindsAll keep h (number ∷ numbers) [] = ⊥

pub record AllAre {Z : Type 0} (old : Caller) (numbers : List ℕ) (now : Newest (Arc Snapshot Z)) (found : List (Kept (Arc Snapshot Z))) (new : Caller) : Type 0 where
  pub quiet : Quiet old new
  pub now_is : now.number ≡ newest new.front
  pub stands : StandsFor (arc_value now.snapshot) (snap new.front (newest new.front))
  pub finds : FindsAll old.settings.keep new.front numbers found

abbrev pub AllFound : Caller → List ℕ → Result Found Memory → Caller → Type 0
AllFound old numbers (Ok x) new = AllAre old numbers x.newest x.kept.items new
AllFound old numbers (Err e) new = Still old new

abbrev pub NamedIs : Caller → ℕ → Result Named Memory → Caller → Type 0
NamedIs old number (Ok x) new = KeptIs old number x.newest x.kept new
NamedIs old number (Err e) new = Still old new

-- ---- jobs

-- a snapshot has them already
pub record Reached (old : Caller) (goal snapshot upto : ℕ) (new : Caller) : Type 0 where
  pub quiet : Quiet old new
  pub reaches : goal ≤ upto
  pub snapshot_is : snapshot ≡ newest new.front
  pub upto_is : upto ≡ upto_of new.front snapshot

-- a job came out
pub record Given (old : Caller) (goal : ℕ) (job : Job) (new : Caller) : Type 0 where
  pub passes : Passes old new
  pub low : (marks new.front).last < goal
  pub holds : JobHolds name IsJob job new.front
  pub hands_out : HandsOut (name job) old new

-- jobs are out, and where the caller is alone it has some itself
pub record AreOut (old : Caller) (out : ℕ) (new : Caller) : Type 0 where
  pub still : Still old new
  pub rises : Rises 1 0 1 old new
  pub outs : new.outs ≡ saturating_sum old.outs out
  pub some : 1 ≤ out
  pub mine : IfSome old.alone (λ b. list_any is_out (cells_in b) ≢ false)

abbrev pub PulledIs : Caller → ℕ → Result (Pulled Job) Memory → Caller → Type 0
PulledIs old goal (Ok (pulled.Reached snapshot upto)) new = Reached old goal snapshot upto new
PulledIs old goal (Ok (pulled.Job job)) new = Given old goal job new
PulledIs old goal (Ok (pulled.Out out)) new = AreOut old out new
PulledIs old goal (Err e) new = Quiet old new

-- the caller published, or nothing of its own was added
abbrev pub Publishes : Caller → Caller → Type 0
Publishes old new = AddsNothing old.me old.front new.front ⊎ ((place : ℕ) × (upto : ℕ) × AddsEntry old.me (Publish old.me upto) place old.front new.front)

-- a job was handed in, which of a plan gave such pieces
pub record HandedIn (job : JobName) (cells : List Cell) (old new : Caller) : Type 0 where
  pub goes : Goes old new
  pub rises : Rises 0 1 1 old new
  pub outs : new.outs ≡ old.outs
  pub publishes : Publishes old new
  pub own : OnlyOwn old new
  pub comes_in : ComesIn job cells old new

-- a job was handed back
pub record HandedBack (job : JobName) (old new : Caller) : Type 0 where
  pub passes : Passes old new
  pub comes_back : ComesBack job old new
