-- Requests that are carried out one after another (our own).
use Rattle.std.specs.Prelude.{◌≡◌, ℕ, ◌≤◌, Bool, List, [], ◌∷◌, length, take}
use mathlib.Core.List.{IsPrefix}
use Rattle.settings.specs.declared.Settings.{Settings}
use Rattle.history.specs.Entries.{History}
use Rattle.history.specs.Legality.{IsLegal}
use Rattle.book_model.specs.Desk.{Caller}
use Rattle.http_wire.specs.declared.reply.Reply.{Reply}
use Rattle.http_wire.specs.declared.request.Request.{Request}
use Rattle.http_wire.specs.Series.{Exchange}
use Rattle.session_model.specs.declared.route.Route.{Route}
use Rattle.session_model.specs.declared.sign.Sign.{Sign}
use Rattle.session_model.specs.Routes.{route_of}
use Rattle.session_model.specs.Alone.{IsAlone, StaysApart, AnswersAlone, LeavesAlone}
use Rattle.session_model.specs.Answers.{Answers, AnswersAt, LeavesAt}
use Rattle.session_model.specs.Counts.{Counts, OutsAre}

-- a request that was carried out, whether the connection closes behind it, its point, its sign and its reply
pub record Done : Type 0 where
  pub asked : Exchange
  pub closes : Bool
  pub point : ℕ
  pub sign : Sign
  pub reply : Reply

-- the same caller later
pub record Goes (old new : Caller) : Type 0 where
  pub lock : new.lock ≡ old.lock
  pub settings : new.settings ≡ old.settings
  pub me : new.me ≡ old.me
  pub begins : IsPrefix old.front new.front
  pub legal : IsLegal new.front

-- a request that leads there was answered between these two moments of the caller
pub record RepliedAt (old new : Caller) (closes : Bool) (q : Request) (route : Route) (sign : Sign) (reply : Reply) : Type 0 where
  pub goes : Goes old new
  pub answers : AnswersAt old.settings closes old.me old.front new.front q route sign reply
  pub counts : Counts sign old new
  pub outs : OutsAre sign old new
  pub apart : StaysApart old new
  pub alone : IsAlone old → AnswersAlone old new sign route

abbrev pub Replied : Caller → Caller → Bool → Request → Sign → Reply → Type 0
Replied old new closes q sign reply = RepliedAt old new closes q (route_of q) sign reply

-- there was no memory for a request that leads there
pub record UnansweredAt (old new : Caller) (route : Route) : Type 0 where
  pub goes : Goes old new
  pub leaves : LeavesAt old.me old.front new.front route
  pub apart : StaysApart old new
  pub alone : IsAlone old → LeavesAlone old.me old.front new.front route

abbrev pub Unanswered : Caller → Caller → Request → Type 0
Unanswered old new q = UnansweredAt old new (route_of q)

-- the request was carried out between these two moments of the caller
pub record Carries (old new : Caller) (d : Done) : Type 0 where
  pub point_is : d.point ≡ length new.front
  pub replied : Replied old new d.closes d.asked.request d.sign d.reply

-- these requests were carried out, one after another
abbrev pub Runs : Caller → List Done → Caller → Type 0
Runs old [] new = new ≡ old
Runs old (d ∷ ds) new = (mid : Caller) × Carries old mid d × Runs mid ds new

-- ---- the same by points, in the history at the end

-- From this point on points never fall nor pass the end, and each request is answered by the histories up to its point and the one before.
abbrev pub IsAtPoints : Settings → ℕ → History → ℕ → List Done → Type 0
IsAtPoints s me whole point [] = Unit {0}
IsAtPoints s me whole point (d ∷ ds) =
    (point ≤ d.point) × (d.point ≤ length whole)
    × Answers s d.closes me (take point whole) (take d.point whole) d.asked.request d.sign d.reply
    × IsAtPoints s me whole d.point ds

-- the last point, where this one stands before the first request
abbrev pub last_point : ℕ → List Done → ℕ
last_point point [] = point
last_point point (d ∷ ds) = last_point d.point ds
