-- A publication, turn by turn (our own).
use Rattle.std.specs.Prelude.{◌≡◌, ◌⊎◌, ℕ, ◌≤◌, ◌<◌, List, ◌++◌, length, Result, Ok, Err}
use mathlib.Core.List.{IsPrefix}
use Rattle.osv_prim.specs.declared.memory.Memory.{Memory}
use Rattle.history.specs.declared.past.Past.{Past}
use Rattle.history.specs.Entries.{History, imports, newest, upto_of, own}
use Rattle.history.specs.Legality.{marks}
use Rattle.book_model.specs.State.{Cell}
use Rattle.book_model.specs.Jobs.{JobName}
use Rattle.book_model.specs.Desk.{Caller}
use Rattle.session_model.specs.declared.sign.Sign.{Sign}
use Rattle.session_model.specs.declared.sign.Sign.TheVariants as signs
use Rattle.session_model.specs.Alone.{IsAlone, StaysApart, with_all, PublishesAlone}
use Rattle.session_model.specs.Answers.{ArePublications, IsStillBuilding, PublishesFew}
use Rattle.session_model.specs.Counts.{Rises, Counts, OutsAre}
use Rattle.session_model.specs.Runs.{Goes}
use Rattle.desk_calls.specs.Alone.{ArePlanned, TurnsBuild, IsAfter}
use Rattle.desk_calls.specs.Calls.{Still, Reached, AreOut, Publishes, HandedIn, HandedBack}
use Rattle.desk_calls.specs.declared.turns.Turned.{Turned}
use Rattle.desk_calls.specs.declared.turns.Turned.TheVariants as turned

-- a job was handed in while less than the goal was published
pub record Worked (old : Caller) (goal : ℕ) (new : Caller) : Type 0 where
  pub goes : Goes old new
  pub rises : Rises 0 1 1 old new
  pub outs : new.outs ≡ old.outs
  pub low : (marks old.front).last < goal
  pub publishes : Publishes old new
  pub apart : StaysApart old new
  pub builds : TurnsBuild old new

abbrev pub Turns : Caller → ℕ → Turned → Caller → Type 0
Turns old goal (turned.Reached snapshot upto) new = Reached old goal snapshot upto new
Turns old goal (turned.Out out) new = AreOut old out new
Turns old goal turned.Finished new = Worked old goal new

-- how a publication ended
abbrev pub EndsPublishing : Caller → ℕ → Sign → Caller → Type 0
EndsPublishing old goal signs.Plain new = ⊥
EndsPublishing old goal signs.Looked new = ⊥
EndsPublishing old goal (signs.Moved seen) new = ⊥
EndsPublishing old goal (signs.Published snapshot upto) new =
    (snapshot ≤ newest new.front) × (upto_of new.front snapshot ≡ upto) × (goal ≤ upto) × PublishesFew old.me old.front new.front
EndsPublishing old goal (signs.Building out took) new = IsStillBuilding out took × PublishesFew old.me old.front new.front

-- a job was done, which of a plan gave such pieces
pub record HandedOver (job : JobName) (old new : Caller) : Type 0 where
  pub cells : List Cell
  pub planned : ArePlanned cells old.front
  pub handed : HandedIn job cells old new

-- a job was done, or handed back
abbrev pub WorkIs : {U : Type 0} → JobName → Caller → Result U Memory → Caller → Type 0
WorkIs job old (Ok done) new = HandedOver job old new
WorkIs job old (Err e) new = HandedBack job old new

abbrev pub TurnIs : Caller → ℕ → Result Turned Memory → Caller → Type 0
TurnIs old goal (Ok t) new = Turns old goal t new
TurnIs old goal (Err e) new = Still old new

abbrev pub PublishedBy : Caller → ℕ → Result Sign Memory → Caller → Type 0
PublishedBy old goal (Ok sign) new = Goes old new × EndsPublishing old goal sign new × Counts sign old new × OutsAre sign old new × StaysApart old new
PublishedBy old goal (Err e) new = Goes old new × PublishesFew old.me old.front new.front × StaysApart old new

-- the same of a caller that was alone, with no build open
abbrev pub PublishedAlone : Caller → Result Sign Memory → Caller → Type 0
PublishedAlone old (Ok sign) new = IsAlone new × PublishesAlone old.me old.front new.front sign
PublishedAlone old (Err e) new = (new.front ≡ old.front) ⊎ (new.front ≡ with_all old.me old.front)

-- The publications so far. After one, all that was imported before it goes into the next; after two, all that was to be published is.
pub record SoFarPublished (me goal : ℕ) (h now : History) : Type 0 where
  pub begins : IsPrefix h now
  pub added : List (ℕ × Past)
  pub mine : own me now ≡ own me h ++ added
  pub each : ArePublications me (length h) (length now) added
  pub few : length added ≤ 2
  pub one : 1 ≤ length added → goal ≤ (marks now).before
  pub two : 2 ≤ length added → goal ≤ (marks now).last
  pub goal_came : goal ≤ length (imports now)

-- what a publication that goes on keeps
pub record Going (old : Caller) (goal took : ℕ) (now : Caller) : Type 0 where
  pub goes : Goes old now
  pub so_far : SoFarPublished old.me goal old.front now.front
  pub rises : Rises 0 took 0 old now
  pub outs : now.outs ≡ old.outs
  pub apart : StaysApart old now
  pub stage : IsAlone old → goal ≡ length (imports old.front) → IsAfter took old.me old.front now
