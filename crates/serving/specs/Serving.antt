-- What a service does with its connections (our own).
use Rattle.std.specs.Prelude.{◌⊎◌, ◌==◌, ℕ, ◌+◌, ◌-◌, ◌^◌, ◌≤◌, if◌then◌else◌, List, Option, min}
use Rattle.edge_io.specs.Causes.{Rose}
use Rattle.settings.specs.declared.Settings.{Settings}
use Rattle.book_model.specs.Desk.{Caller}
use Rattle.session_model.specs.declared.end.End.{End}
use Rattle.session_model.specs.declared.sign.Sign.{Sign}
use Rattle.session_model.specs.Sessions.{Session}
use Rattle.impact_worker.specs.declared.drained.DrainEnd.{DrainEnd}
use Rattle.impact_worker.specs.Working.{Works, Ends}
use Rattle.serving.specs.declared.lane.TheConstants.{MOST_FAILED, MOST_JOBS, FEW_JOBS}

-- the count rose by at least so many, or stands at its end
abbrev pub RoseBy : ℕ → ℕ → ℕ → Type 0
RoseBy count before now = min (before + count) (2 ^ 64 - 1) ≤ now

-- a lane has ended: its listener told it that no connection will come, or has failed it too often
abbrev pub HasEnded : ℕ → ℕ → ℕ → ℕ → Type 0
HasEnded faults_old faults_new closed_old closed_new = Rose closed_old closed_new ⊎ RoseBy MOST_FAILED faults_old faults_new

-- how many jobs a lane does behind a connection, at most, beside so many helpers
abbrev pub jobs_between : ℕ → ℕ
jobs_between helpers = if helpers == 0 then MOST_JOBS else FEW_JOBS

-- One connection was served: a session, and then jobs until there was none, enough were done, or memory ended.
pub record Serves (s : Settings) (helpers : ℕ) (old new : Caller) (left_old left_new held_old held_new : Option (List ℕ)) : Type 0 where
  pub mid : Caller
  pub points : List ℕ
  pub signs : List Sign
  pub end : End
  pub session : Session s old mid left_old left_new held_old held_new points signs end
  pub did : ℕ
  pub stop : DrainEnd
  pub works : Works did mid new
  pub ends : Ends (jobs_between helpers) did stop mid new
