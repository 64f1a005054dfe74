-- A caller on whose book nobody else acts, over requests that are carried out one after another.
use Rattle.std.proofs.Common.{◌≡◌, ◌⊎◌, inl, inr, ℕ, Bool, true, false, true≢false, List, [], ◌∷◌, ◌++◌, Option, Some, None, refl, sym, ap, subst, ◌∙◌, append_assoc, append-nil, arith}
use Rattle.std.specs.Prelude.{is_some, IfSome, All}
use Rattle.std.proofs.lemmas.List.Elements.{All-nil, All-append}
use Rattle.turn_lock.specs.History.{GrownBy}
use Rattle.history.specs.declared.past.Past.{Past}
use Rattle.history.specs.Entries.{History, caller, own}
use Rattle.history.specs.Legality.{IsLegal}
use Rattle.history.proofs.Entries.{front-refl}
use Rattle.book_model.specs.State.{Build}
use Rattle.book_model.specs.Desk.{Caller}
use Rattle.http_wire.specs.Series.{Exchange}
use Rattle.session_model.specs.declared.route.Route.{Route}
use Rattle.session_model.specs.declared.route.Route.TheVariants as routes
use Rattle.session_model.specs.declared.sign.Sign.{Sign}
use Rattle.session_model.specs.Alone.{IsAlone, HasNoJob, StaysApart, LeavesAlone}
use Rattle.session_model.specs.Answers.{AddsNothing, PublishesFew, LeavesAt}
use Rattle.session_model.specs.Runs.{Done, Runs, UnansweredAt, Unanswered}
use Rattle.session_model.specs.Sessions.{IsRun}
use Rattle.session_model.proofs.Runs.{goes-refl, runs-goes}

pub grown-none : (me : ℕ) (h : History) → GrownBy caller me h h
grown-none me h = ([], append-nil h, All-nil (λ (e : Past). caller e ≡ me))

grown-then : (me : ℕ) (a b c : History) → GrownBy caller me a b → GrownBy caller me b c → GrownBy caller me a c
grown-then me a b c p q = (
  p.0 ++ q.0,
  sym (append_assoc a p.0 q.0) ∙ ap (λ (l : History). l ++ q.0) p.1 ∙ q.1,
  All-append (λ (e : Past). caller e ≡ me) p.0 q.0 p.2 q.2,
)

pub if-grown : (x y : Option (Option Build)) (me : ℕ) (a b c : History) → is_some y ≡ is_some x
    → IfSome x (λ build. GrownBy caller me a b) → IfSome y (λ build. GrownBy caller me b c) → IfSome x (λ build. GrownBy caller me a c)
if-grown None y me a b c e p q = tt
if-grown (Some x) None me a b c e p q = absurd (true≢false (sym e))
if-grown (Some x) (Some y) me a b c e p q = grown-then me a b c p q

-- a caller that made no call
pub apart-refl : (c : Caller) → StaysApart c c
apart-refl c = record { still = refl; grown = none_came c.alone; no_job = λ h. h }
  where
    none_came : (x : Option (Option Build)) → IfSome x (λ build. GrownBy caller c.me c.front c.front)
    none_came None = tt
    none_came (Some build) = grown-none c.me c.front

pub adds-none : (me : ℕ) (h : History) → AddsNothing me h h
adds-none me h = record { begins = front-refl h; mine = refl }

few-none : (me : ℕ) (h : History) → PublishesFew me h h
few-none me h = record { begins = front-refl h; added = []; mine = sym (append-nil (own me h)); few = omega arith; each = tt }

leaves-none : (me : ℕ) (h : History) (route : Route) → LeavesAt me h h route
leaves-none me h routes.NoPath = adds-none me h
leaves-none me h (routes.WrongMethod allow) = adds-none me h
leaves-none me h routes.Query = adds-none me h
leaves-none me h routes.QueryBatch = adds-none me h
leaves-none me h routes.Vulns = adds-none me h
leaves-none me h routes.Import = adds-none me h
leaves-none me h routes.Repo = adds-none me h
leaves-none me h routes.Publish = few-none me h

pub leaves-same : (me : ℕ) (h now : History) (route : Route) → now ≡ h → LeavesAlone me h now route
leaves-same me h now routes.NoPath e = e
leaves-same me h now (routes.WrongMethod allow) e = e
leaves-same me h now routes.Query e = e
leaves-same me h now routes.QueryBatch e = e
leaves-same me h now routes.Vulns e = e
leaves-same me h now routes.Import e = e
leaves-same me h now routes.Repo e = e
leaves-same me h now routes.Publish e = inl e

-- and found no memory
pub unanswered-none : (c : Caller) (route : Route) → IsLegal c.front → UnansweredAt c c route
unanswered-none c route legal = record {
  goes = goes-refl c legal;
  leaves = leaves-none c.me c.front route;
  apart = apart-refl c;
  alone = λ a. leaves-same c.me c.front c.front route refl;
}

pub apart-then : (a b c : Caller) → b.me ≡ a.me → StaysApart a b → StaysApart b c → StaysApart a c
apart-then a b c me p q = record {
  still = q.still ∙ p.still;
  grown = if-grown a.alone b.alone a.me a.front b.front c.front p.still p.grown (subst (λ (k : ℕ). IfSome b.alone (λ build. GrownBy caller k b.front c.front)) me q.grown);
  no_job = λ h. q.no_job (p.no_job h);
}

pub run-apart : (old new : Caller) (ds : List Done) → Runs old ds new → StaysApart old new
run-apart old new [] r = subst (λ (c : Caller). StaysApart old c) (sym r) (apart-refl old)
run-apart old new (d ∷ ds) r = apart-then old r.0 new r.1.replied.goes.me r.1.replied.apart (run-apart r.0 new ds r.2)

pub run-alone : (old new : Caller) (ds : List Done) → IsAlone old → Runs old ds new → IsAlone new
run-alone old new [] h r = subst IsAlone (sym r) h
run-alone old new (d ∷ ds) h r = run-alone r.0 new ds (r.1.replied.alone h).still r.2

pub session-apart : (old new : Caller) (points : List ℕ) (signs : List Sign) → IsLegal old.front → IsRun old new points signs → StaysApart old new
session-apart old new points signs legal run = apart-then old run.mid new (runs-goes old run.mid run.done legal run.runs).me (run-apart old run.mid run.done run.runs) (behind run.rest)
  where
    behind : (new ≡ run.mid) ⊎ ((x : Exchange) × Unanswered run.mid new x.request) → StaysApart run.mid new
    behind (inl e) = subst (λ (c : Caller). StaysApart run.mid c) (sym e) (apart-refl run.mid)
    behind (inr u) = u.1.apart
