-- A desk behind a session is that of the same caller.
use Rattle.std.proofs.Common.{◌≡◌, ◌⊎◌, inl, inr, ℕ, List, Option, subst, sym}
use Rattle.settings.specs.declared.Settings.{Settings}
use Rattle.history.specs.Legality.{IsLegal}
use Rattle.book_model.specs.Desk.{Caller}
use Rattle.http_wire.specs.Series.{Exchange}
use Rattle.session_model.specs.declared.end.End.{End}
use Rattle.session_model.specs.declared.sign.Sign.{Sign}
use Rattle.session_model.specs.Runs.{Goes, Unanswered}
use Rattle.session_model.specs.Sessions.{Session, IsRun}
use Rattle.session_model.proofs.Runs.{goes-then, runs-goes}
use Rattle.session_model.proofs.Sessions.{session-run}

rest_goes : (old mid new : Caller) → Goes old mid → (new ≡ mid) ⊎ ((x : Exchange) × Unanswered mid new x.request) → Goes old new
rest_goes old mid new g (inl e) = subst (λ (c : Caller). Goes old c) (sym e) g
rest_goes old mid new g (inr u) = goes-then old mid new g u.1.goes

run_goes : (old new : Caller) (points : List ℕ) (signs : List Sign) → IsLegal old.front → IsRun old new points signs → Goes old new
run_goes old new points signs legal r = rest_goes old r.mid new (runs-goes old r.mid r.done legal r.runs) r.rest

pub session-goes : (s : Settings) (old new : Caller) (text rest out out_now : Option (List ℕ)) (points : List ℕ) (signs : List Sign) (end : End) → IsLegal old.front → Session s old new text rest out out_now points signs end → Goes old new
session-goes s old new text rest out out_now points signs end legal v = run_goes old new points signs legal (session-run s old new text rest out out_now points signs end v)
