-- Requests that are carried out one after another.
use Rattle.std.proofs.Common.{◌≡◌, ℕ, ◌≤◌, List, [], ◌∷◌, ◌++◌, length, take, refl, sym, ap, subst, ◌∙◌, arith}
use mathlib.Core.List.{IsPrefix}
use Rattle.std.proofs.lemmas.List.{take-append-le, take_all}
use Rattle.settings.specs.declared.Settings.{Settings}
use Rattle.history.specs.Entries.{History}
use Rattle.history.specs.Legality.{IsLegal}
use Rattle.history.proofs.Entries.{front-refl, front-trans, front-length}
use Rattle.book_model.specs.Desk.{Caller}
use Rattle.session_model.specs.Answers.{Answers}
use Rattle.session_model.specs.Runs.{Done, Goes, Carries, Runs, IsAtPoints, last_point}

-- ---- the same caller later

pub goes-refl : (c : Caller) → IsLegal c.front → Goes c c
goes-refl c legal = record { lock = refl; settings = refl; me = refl; begins = front-refl c.front; legal = legal }

pub goes-then : (a b c : Caller) → Goes a b → Goes b c → Goes a c
goes-then a b c p q = record {
  lock = q.lock ∙ p.lock;
  settings = q.settings ∙ p.settings;
  me = q.me ∙ p.me;
  begins = front-trans a.front b.front c.front p.begins q.begins;
  legal = q.legal;
}

-- ---- runs

pub runs-push : (old mid new : Caller) (ds : List Done) (d : Done) → Runs old ds mid → Carries mid new d → Runs old (ds ++ d ∷ []) new
runs-push old mid new [] d r c = (new, subst (λ (x : Caller). Carries x new d) r c, refl)
runs-push old mid new (x ∷ ds) d r c = (r.0, r.1, runs-push r.0 mid new ds d r.2 c)

pub runs-goes : (old new : Caller) (ds : List Done) → IsLegal old.front → Runs old ds new → Goes old new
runs-goes old new [] legal r = subst (λ (x : Caller). Goes old x) (sym r) (goes-refl old legal)
runs-goes old new (d ∷ ds) legal r = goes-then old r.0 new r.1.replied.goes (runs-goes r.0 new ds r.1.replied.goes.legal r.2)

pub runs-front : (old new : Caller) (ds : List Done) → Runs old ds new → IsPrefix old.front new.front
runs-front old new [] r = subst (λ (x : Caller). IsPrefix old.front x.front) (sym r) (front-refl old.front)
runs-front old new (d ∷ ds) r = front-trans old.front r.0.front new.front r.1.replied.goes.begins (runs-front r.0 new ds r.2)

pub runs-last : (old new : Caller) (ds : List Done) → Runs old ds new → length new.front ≡ last_point (length old.front) ds
runs-last old new [] r = ap (λ (c : Caller). length c.front) r
runs-last old new (d ∷ ds) r = runs-last r.0 new ds r.2 ∙ ap (λ (n : ℕ). last_point n ds) (sym r.1.point_is)

-- ---- points

front-taken : (a b : History) → IsPrefix a b → take (length a) b ≡ a
front-taken a b p =
    let k : length a ≤ length a = omega arith in
    ap (λ (h : History). take (length a) h) (sym p.1) ∙ take-append-le (length a) a p.0 k ∙ take_all (length a) a k

answers-at : (s : Settings) (me : ℕ) (h now whole : History) (d : Done) → IsPrefix h whole → IsPrefix now whole → d.point ≡ length now
    → Answers s d.closes me h now d.asked.request d.sign d.reply → Answers s d.closes me (take (length h) whole) (take d.point whole) d.asked.request d.sign d.reply
answers-at s me h now whole d from ahead at a =
    subst (λ (n : ℕ). Answers s d.closes me (take (length h) whole) (take n whole) d.asked.request d.sign d.reply) (sym at)
    (subst (λ (x : History). Answers s d.closes me (take (length h) whole) x d.asked.request d.sign d.reply) (sym (front-taken now whole ahead))
    (subst (λ (x : History). Answers s d.closes me x now d.asked.request d.sign d.reply) (sym (front-taken h whole from)) a))

later-points : (s t : Settings) (me you : ℕ) (whole : History) (n point : ℕ) (ds : List Done) → t ≡ s → you ≡ me → point ≡ n → IsAtPoints t you whole n ds → IsAtPoints s me whole point ds
later-points s t me you whole n point ds e f g p =
    subst (λ (k : ℕ). IsAtPoints s me whole k ds) (sym g) (subst (λ (x : Settings). IsAtPoints x me whole n ds) e (subst (λ (k : ℕ). IsAtPoints t k whole n ds) f p))

at-points : (old new : Caller) (whole : History) (ds : List Done) → IsPrefix new.front whole → Runs old ds new → IsAtPoints old.settings old.me whole (length old.front) ds
at-points old new whole [] f r = tt
at-points old new whole (d ∷ ds) f r =
    let ahead : IsPrefix r.0.front whole = front-trans r.0.front new.front whole (runs-front r.0 new ds r.2) f in
    let from : IsPrefix old.front whole = front-trans old.front r.0.front whole r.1.replied.goes.begins ahead in (
      omega (arith, front-length old.front r.0.front r.1.replied.goes.begins, r.1.point_is),
      omega (arith, front-length r.0.front whole ahead, r.1.point_is),
      answers-at old.settings old.me old.front r.0.front whole d from ahead r.1.point_is r.1.replied.answers,
      later-points old.settings r.0.settings old.me r.0.me whole (length r.0.front) d.point ds r.1.replied.goes.settings r.1.replied.goes.me r.1.point_is (at-points r.0 new whole ds f r.2),
    )

pub run-points : (old new : Caller) (ds : List Done) → Runs old ds new → IsAtPoints old.settings old.me new.front (length old.front) ds
run-points old new ds r = at-points old new new.front ds (front-refl new.front) r
