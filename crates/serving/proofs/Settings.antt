-- A session leaves the settings of its caller.
use Rattle.std.proofs.Common.{◌≡◌, ◌⊎◌, ℕ, List, ap, ◌∙◌, inl, inr}
use Rattle.settings.specs.declared.Settings.{Settings}
use Rattle.history.specs.Legality.{IsLegal}
use Rattle.book_model.specs.Desk.{Caller}
use Rattle.session_model.specs.Runs.{Done, Goes, Runs, Unanswered}
use Rattle.session_model.specs.Sessions.{IsRun}
use Rattle.session_model.specs.declared.sign.Sign.{Sign}
use Rattle.http_wire.specs.Series.{Exchange}

-- what runs keep, as the law of runs says
abbrev pub RunsGo : Type 0
RunsGo = (old new : Caller) (done : List Done) → IsLegal old.front → Runs old done new → Goes old new

by_rest : (mid new : Caller) → (new ≡ mid) ⊎ ((x : Exchange) × Unanswered mid new x.request) → new.settings ≡ mid.settings
by_rest mid new (inl e) = ap (λ (c : Caller). c.settings) e
by_rest mid new (inr r) = r.1.goes.settings

pub settings_stay : (old new : Caller) (points : List ℕ) (signs : List Sign) → IsLegal old.front → RunsGo → IsRun old new points signs → new.settings ≡ old.settings
settings_stay old new points signs legal go r = by_rest r.mid new r.rest ∙ (go old r.mid r.done legal r.runs).settings
