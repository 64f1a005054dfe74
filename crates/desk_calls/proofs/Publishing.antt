-- A publication, turn by turn.
use Rattle.std.proofs.Common.{◌≡◌, ◌≢◌, inl, inr, ℕ, ◌+◌, ◌<◌, ◌≤◌, false, min, List, [], ◌∷◌, ◌++◌, length, refl, sym, ap, subst, ◌∙◌, append_assoc, arith, length-append}
use mathlib.Core.List.{IsPrefix}
use Rattle.std.proofs.lemmas.List.{append-nil}
use Rattle.settings.specs.declared.TheConstants.{MAX_WEIGHT}
use Rattle.history.specs.declared.past.Past.{Past}
use Rattle.history.specs.declared.past.Past.TheVariants.{Publish}
use Rattle.history.specs.Entries.{History, imports, own, newest, upto_of}
use Rattle.history.specs.Legality.{Marks, marks, marked, start, ArePublishedFrom, IsLegal}
use Rattle.history.proofs.Entries.{Grows, marks_grow, marks_from-append, count_from, published-front, published-rest, front-refl, front-trans, front-length}
use Rattle.std.specs.Prelude.{Option, None, Result, Ok, Err}
use Rattle.std.specs.List.{list_any}
use Rattle.osv_prim.specs.declared.memory.Memory.{Memory}
use Rattle.book_model.specs.State.{Build, is_out, cells_in, published}
use Rattle.book_model.specs.Desk.{Caller, IsKnown, saturating_sum}
use Rattle.book_model.proofs.Owned.{some_of}
use Rattle.snapshot.specs.declared.job.Job.{Job}
use Rattle.snapshot.specs.Jobs.{name}
use Rattle.session_model.specs.declared.sign.Sign.{Sign}
use Rattle.session_model.specs.declared.sign.Sign.TheVariants as signs
use Rattle.session_model.specs.Alone.{IsAlone, StaysApart, with_all, PublishesAlone}
use Rattle.session_model.specs.Answers.{AddsNothing, AddsEntry, ArePublications, PublishesFew, most_turns}
use Rattle.session_model.specs.Counts.{Rises, Counts, OutsAre, busy_of, turns_of, looks_of}
use Rattle.session_model.specs.Runs.{Goes}
use Rattle.session_model.proofs.Runs.{goes-then}
use Rattle.session_model.proofs.Apart.{apart-refl, apart-then}
use Rattle.session_model.proofs.Counting.{rises-then, rises-less}
use Rattle.desk_calls.specs.Alone.{Begun, ArePlanned, most_alone, build_at, front_at, build_over}
use Rattle.desk_calls.specs.Calls.{Still, Counted, Reached, AreOut, Given, HandedIn, HandedBack, Publishes}
use Rattle.desk_calls.specs.Publishing.{Worked, HandedOver, EndsPublishing, SoFarPublished, Going, PublishedBy, PublishedAlone}
use Rattle.desk_calls.proofs.Alone.{if-some, same-front, apart, only-own-then, builds-behind}
use Rattle.desk_calls.proofs.Stages.{few-turns, free-at, same-at, next-stage, one-or-none, all-published}

-- ---- histories

marks-later : (a b : History) → IsPrefix a b → ArePublishedFrom start b → Grows (marks a) (marks b)
marks-later a b f legal = subst (λ (h : History). Grows (marks a) (marks h)) f.1 (marks_grow a f.0 (subst (λ (h : History). ArePublishedFrom start h) (sym f.1) legal))

count-is : (h : History) → (marks h).count ≡ length (imports h)
count-is h = omega (arith, count_from start h)

widen : (me from to later : ℕ) (xs : List (ℕ × Past)) → to ≤ later → ArePublications me from to xs → ArePublications me from later xs
widen me from to later [] le p = tt
widen me from to later (x ∷ xs) le p = (p.0, omega (arith, p.1, le), p.2, widen me from to later xs le p.3)

sooner : (me from before to : ℕ) (xs : List (ℕ × Past)) → before ≤ from → ArePublications me from to xs → ArePublications me before to xs
sooner me from before to [] le p = tt
sooner me from before to (x ∷ xs) le p = (omega (arith, p.0, le), p.1, p.2, sooner me from before to xs le p.3)

one-more : (me from to place upto : ℕ) (xs : List (ℕ × Past)) → from ≤ place → place < to → ArePublications me from to xs → ArePublications me from to (xs ++ (place, Publish me upto) ∷ [])
one-more me from to place upto [] le lt p = (le, lt, refl, tt)
one-more me from to place upto (x ∷ xs) le lt p = (p.0, p.1, p.2, one-more me from to place upto xs le lt p.3)

-- ---- the publications so far

pub published-start : (me goal : ℕ) (h : History) → goal ≤ length (imports h) → SoFarPublished me goal h h
published-start me goal h came = record {
  begins = front-refl h;
  added = [];
  mine = sym (append-nil (own me h));
  each = tt;
  few = omega arith;
  one = λ x. absurd (omega (arith, x));
  two = λ x. absurd (omega (arith, x));
  goal_came = came;
}

pub published-same : (me goal : ℕ) (h mid now : History) → SoFarPublished me goal h mid → AddsNothing me mid now → IsLegal now → SoFarPublished me goal h now
published-same me goal h mid now p a legal =
    let g = marks-later mid now a.begins legal.published in
    record {
      begins = front-trans h mid now p.begins a.begins;
      added = p.added;
      mine = a.mine ∙ p.mine;
      each = widen me (length h) (length mid) (length now) p.added (front-length mid now a.begins) p.each;
      few = p.few;
      one = λ x. omega (arith, p.one x, g.before);
      two = λ x. omega (arith, p.two x, g.last);
      goal_came = omega (arith, p.goal_came, g.count, count-is mid, count-is now);
    }

at-most-one : (n : ℕ) → (2 ≤ n → ⊥) → n ≤ 1
at-most-one n never = omega (arith, never)

pub published-more : (me goal place upto : ℕ) (h mid now : History) → SoFarPublished me goal h mid → AddsEntry me (Publish me upto) place mid now → (marks mid).last < goal → IsLegal now → SoFarPublished me goal h now
published-more me goal place upto h mid now p a low legal =
    let e : Past = Publish me upto in
    let whole : ArePublishedFrom start (a.before ++ e ∷ []) = subst (λ (x : History). ArePublishedFrom start x) a.ends legal.published in
    let g = marks-later mid a.before a.begins (published-front start a.before (e ∷ []) whole) in
    let may = published-rest start a.before (e ∷ []) whole in
    let m : marks now ≡ marked (marks a.before) e = ap marks a.ends ∙ marks_from-append start a.before (e ∷ []) in
    let before_is : (marks now).before ≡ (marks a.before).count = ap (λ (k : Marks). k.before) m in
    let last_is : (marks now).last ≡ upto = ap (λ (k : Marks). k.last) m in
    let count_stays : (marks now).count ≡ (marks a.before).count = ap (λ (k : Marks). k.count) m in
    let reaches : (marks a.before).before ≤ upto = may.0.2 in
    let len : length now ≡ length a.before + 1 = ap (λ (x : History). length x) a.ends ∙ length-append a.before (e ∷ []) in
    let few : length p.added ≤ 1 = at-most-one (length p.added) (λ x. omega (arith, p.two x, low)) in
    let long : length (p.added ++ (place, e) ∷ []) ≡ length p.added + 1 = length-append p.added ((place, e) ∷ []) in
    let from : length h ≤ length mid = front-length h mid p.begins in
    let over : length mid ≤ length a.before = front-length mid a.before a.begins in
    record {
      begins = front-trans h mid now p.begins (front-trans mid a.before now a.begins (e ∷ [], sym a.ends));
      added = p.added ++ (place, e) ∷ [];
      mine = a.mine ∙ ap (λ (xs : List (ℕ × Past)). xs ++ (place, e) ∷ []) p.mine ∙ append_assoc (own me h) p.added ((place, e) ∷ []);
      each = one-more me (length h) (length now) place upto p.added (omega (arith, from, over, a.place_is)) (omega (arith, len, a.place_is))
          (widen me (length h) (length mid) (length now) p.added (omega (arith, over, len)) p.each);
      few = omega (arith, few, long);
      one = λ x. omega (arith, before_is, g.count, count-is mid, p.goal_came);
      two = λ x. omega (arith, last_is, reaches, g.before, p.one (omega (arith, x, long)));
      goal_came = omega (arith, count_stays, g.count, count-is mid, count-is now, p.goal_came);
    }

pub few-so-far : (me goal : ℕ) (h now : History) → SoFarPublished me goal h now → PublishesFew me h now
few-so-far me goal h now p = record { begins = p.begins; added = p.added; mine = p.mine; few = p.few; each = p.each }

-- ---- turns

pub going-start : (c : Caller) (goal : ℕ) → goal ≤ length (imports c.front) → IsKnown c → Goes c c → Rises 0 0 0 c c → Going c goal 0 c
going-start c goal came known g r = record {
  goes = g;
  so_far = published-start c.me goal c.front came;
  rises = r;
  outs = refl;
  apart = apart-refl c;
  stage = λ alone all.
      let limit : c.settings.weight ≤ MAX_WEIGHT = some_of (λ (b : Option Build). c.settings.weight ≤ MAX_WEIGHT) c.alone None alone known.limit in
      record { light = omega (arith, known.within, limit); stage = Begun; may = refl; there = record { build = alone; front = refl; mine = refl; needed = tt } };
}

still-so-far : (old mid new : Caller) (goal took : ℕ) → Going old goal took mid → Still mid new → SoFarPublished old.me goal old.front new.front
still-so-far old mid new goal took p s =
    published-same old.me goal old.front mid.front new.front p.so_far (subst (λ (k : ℕ). AddsNothing k mid.front new.front) p.goes.me s.none) s.goes.legal

worked-so-far : (old mid new : Caller) (goal took : ℕ) → Going old goal took mid → (marks mid.front).last < goal → IsLegal new.front → Publishes mid new → SoFarPublished old.me goal old.front new.front
worked-so-far old mid new goal took p low legal (inl s) =
    published-same old.me goal old.front mid.front new.front p.so_far (subst (λ (k : ℕ). AddsNothing k mid.front new.front) p.goes.me s) legal
worked-so-far old mid new goal took p low legal (inr a) =
    published-more old.me goal a.0 a.1 old.front mid.front new.front p.so_far (subst (λ (k : ℕ). AddsEntry k (Publish k a.1) a.0 mid.front new.front) p.goes.me a.2) low legal

pub going-on : (old mid new : Caller) (goal took : ℕ) → Going old goal took mid → Worked mid goal new → Going old goal (took + 1) new
going-on old mid new goal took p w =
    let both = rises-then old mid 0 took 0 new 0 1 1 p.rises w.rises in
    record {
      goes = goes-then old mid new p.goes w.goes;
      so_far = worked-so-far old mid new goal took p w.low w.goes.legal w.publishes;
      rises = rises-less old new (0 + 0) (took + 1) (0 + 1) 0 (took + 1) 0 (omega arith) (omega arith) (omega arith) both;
      outs = w.outs ∙ p.outs;
      apart = apart-then old mid new p.goes.me p.apart w.apart;
      stage = λ alone all. next-stage old.me old.front mid new goal took all w (p.stage alone all);
    }

pub stopped : (old mid new : Caller) (goal took : ℕ) → Going old goal took mid → Still mid new → Goes old new × PublishesFew old.me old.front new.front × StaysApart old new
stopped old mid new goal took p s = (
  goes-then old mid new p.goes s.goes,
  few-so-far old.me goal old.front new.front (still-so-far old mid new goal took p s),
  apart-then old mid new p.goes.me p.apart s.apart,
)

pub stopped-alone : (old mid new : Caller) (goal took : ℕ) (e : Memory) → Going old goal took mid → Still mid new → IsAlone old → goal ≡ length (imports old.front) → PublishedAlone old (Err e) new
stopped-alone old mid new goal took e p s alone all =
    let k = p.stage alone all in
    one-or-none k.stage old.me old.front new k.there.needed (same-at k.stage took old.me old.front mid new k.may k.there s ∙ k.there.front)

pub reached-ends : (old mid new : Caller) (goal took snapshot upto : ℕ) → Going old goal took mid → Reached mid goal snapshot upto new
    → PublishedBy old goal (Ok (signs.Published snapshot upto)) new
reached-ends old mid new goal took snapshot upto p r =
    let s = stopped old mid new goal took p r.quiet.still in
    let both = rises-then old mid 0 took 0 new 0 0 1 p.rises r.quiet.rises in
    let within : snapshot ≤ newest new.front = omega (arith, r.snapshot_is) in (
      s.0,
      (within, sym r.upto_is, r.reaches, s.1),
      rises-less old new (0 + 0) (took + 0) (0 + 1) 0 0 1 (omega arith) (omega arith) (omega arith) both,
      r.quiet.outs ∙ p.outs,
      s.2,
    )

pub reached-alone : (old mid new : Caller) (goal took snapshot upto : ℕ) → Going old goal took mid → Reached mid goal snapshot upto new → IsAlone old → goal ≡ length (imports old.front)
    → PublishedAlone old (Ok (signs.Published snapshot upto)) new
reached-alone old mid new goal took snapshot upto p r alone all =
    let k = p.stage alone all in
    let now : new.front ≡ front_at k.stage old.me old.front = same-at k.stage took old.me old.front mid new k.may k.there r.quiet.still ∙ k.there.front in
    let is : upto ≡ upto_of new.front (newest new.front) = r.upto_is ∙ ap (λ (n : ℕ). upto_of new.front n) r.snapshot_is in
    let enough : length (imports old.front) ≤ published new.front = omega (arith, all, is, r.reaches) in
    let ended = all-published k.stage old.me old.front mid new enough k.there r.quiet.alone now in
    (ended.0, (ended.1, ap (λ (n : ℕ). signs.Published n upto) r.snapshot_is ∙ ap (λ (n : ℕ). signs.Published (newest new.front) n) is))

pub out-ends : (old mid new : Caller) (goal took out : ℕ) → took ≤ most_turns → Going old goal took mid → AreOut mid out new
    → PublishedBy old goal (Ok (signs.Building out took)) new
out-ends old mid new goal took out few p r =
    let s = stopped old mid new goal took p r.still in
    let both = rises-then old mid 0 took 0 new 1 0 1 p.rises r.rises in (
      s.0,
      (inl (r.some, few), s.1),
      rises-less old new (0 + 1) (took + 0) (0 + 1) (min out 1) took 0 (omega arith) (omega arith) (omega arith) both,
      (λ some. r.outs ∙ ap (λ (n : ℕ). saturating_sum n out) p.outs, λ none. absurd (omega (arith, r.some, none))),
      s.2,
    )

-- the caller itself has no job
pub never-out : (old mid new : Caller) (goal took out : ℕ) → Going old goal took mid → AreOut mid out new → IsAlone old → goal ≡ length (imports old.front) → ⊥
never-out old mid new goal took out p r alone all =
    let k = p.stage alone all in
    some_of (λ (b : Option Build). list_any is_out (cells_in b) ≢ false) mid.alone (build_at k.stage old.front) k.there.build r.mine (free-at k.stage old.front took k.may)

pub all-taken : (old now : Caller) (goal took : ℕ) → took ≤ most_turns → most_turns ≤ took → Going old goal took now
    → PublishedBy old goal (Ok (signs.Building 0 took)) now
all-taken old now goal took few all p =
    let is : took ≡ most_turns = omega (arith, few, all) in (
      p.goes,
      (inr (refl, is), few-so-far old.me goal old.front now.front p.so_far),
      rises-less old now 0 took 0 (min 0 1) took 0 (omega arith) (omega arith) (omega arith) p.rises,
      (λ some. absurd (omega (arith, some)), λ none. p.outs),
      p.apart,
    )

pub never-taken : (old now : Caller) (goal took : ℕ) → most_turns ≤ took → Going old goal took now → IsAlone old → goal ≡ length (imports old.front) → ⊥
never-taken old now goal took many p alone all =
    let k = p.stage alone all in
    let few : took ≤ most_alone = few-turns k.stage took k.may in
    omega (arith, many, few)

-- ---- behind the call that says how many imports there are

pub few-behind : (old mid new : Caller) → Still old mid → PublishesFew mid.me mid.front new.front → PublishesFew old.me old.front new.front
few-behind old mid new s p =
    let q : PublishesFew old.me mid.front new.front = subst (λ (k : ℕ). PublishesFew k mid.front new.front) s.goes.me p in
    record {
      begins = front-trans old.front mid.front new.front s.none.begins q.begins;
      added = q.added;
      mine = q.mine ∙ ap (λ (xs : List (ℕ × Past)). xs ++ q.added) s.none.mine;
      few = q.few;
      each = sooner old.me (length mid.front) (length old.front) (length new.front) q.added (front-length old.front mid.front s.none.begins) q.each;
    }

pub ends-behind : (old mid new : Caller) (goal count : ℕ) (sign : Sign) → Still old mid → goal ≤ count → EndsPublishing mid count sign new → EndsPublishing old goal sign new
ends-behind old mid new goal count signs.Plain s le e = absurd e
ends-behind old mid new goal count signs.Looked s le e = absurd e
ends-behind old mid new goal count (signs.Moved seen) s le e = absurd e
ends-behind old mid new goal count (signs.Published snapshot upto) s le e =
    let reaches : count ≤ upto = e.2 in
    (e.0, e.1, omega (arith, le, reaches), few-behind old mid new s e.3)
ends-behind old mid new goal count (signs.Building out took) s le e = (e.0, few-behind old mid new s e.1)

pub counts-behind : (old mid new : Caller) (sign : Sign) → Rises 0 0 1 old mid → Counts sign mid new → Counts sign old new
counts-behind old mid new sign p q =
    let both = rises-then old mid 0 0 1 new (busy_of sign) (turns_of sign) (looks_of sign) p q in
    rises-less old new (0 + busy_of sign) (0 + turns_of sign) (1 + looks_of sign) (busy_of sign) (turns_of sign) (looks_of sign) (omega arith) (omega arith) (omega arith) both

outs-behind : (old mid new : Caller) (sign : Sign) → mid.outs ≡ old.outs → OutsAre sign mid new → OutsAre sign old new
outs-behind old mid new signs.Plain e o = o ∙ e
outs-behind old mid new signs.Looked e o = o ∙ e
outs-behind old mid new (signs.Moved seen) e o = o ∙ e
outs-behind old mid new (signs.Published snapshot upto) e o = o ∙ e
outs-behind old mid new (signs.Building out took) e o = (λ some. o.0 some ∙ ap (λ (n : ℕ). saturating_sum n out) e, λ none. o.1 none ∙ e)

pub published-behind : (old mid new : Caller) (count : ℕ) (r : Result Sign Memory) → Counted old count mid → PublishedBy mid count r new → PublishedBy old (length (imports old.front)) r new
published-behind old mid new count (Ok sign) k p = (
  goes-then old mid new k.quiet.still.goes p.0,
  ends-behind old mid new (length (imports old.front)) count sign k.quiet.still k.least p.1,
  counts-behind old mid new sign k.quiet.rises p.2,
  outs-behind old mid new sign k.quiet.outs p.3,
  apart-then old mid new k.quiet.still.goes.me k.quiet.still.apart p.4,
)
published-behind old mid new count (Err e) k p =
    (goes-then old mid new k.quiet.still.goes p.0, few-behind old mid new k.quiet.still p.1, apart-then old mid new k.quiet.still.goes.me k.quiet.still.apart p.2)

alone-step : (old mid new : Caller) (r : Result Sign Memory) → mid.me ≡ old.me → mid.front ≡ old.front → PublishedAlone mid r new → PublishedAlone old r new
alone-step old mid new (Ok sign) me front p =
    (p.0, subst (λ (n : ℕ). PublishesAlone n old.front new.front sign) me (subst (λ (h : History). PublishesAlone mid.me h new.front sign) front p.1))
alone-step old mid new (Err e) me front (inl p) = inl (p ∙ front)
alone-step old mid new (Err e) me front (inr p) = inr (p ∙ ap (λ (h : History). with_all mid.me h) front ∙ ap (λ (n : ℕ). with_all n old.front) me)

pub alone-behind : (old mid new : Caller) (count : ℕ) (r : Result Sign Memory) → Counted old count mid → (IsAlone mid → count ≡ length (imports mid.front) → PublishedAlone mid r new) → IsAlone old → PublishedAlone old r new
alone-behind old mid new count r k f alone =
    let front : mid.front ≡ old.front = same-front old mid k.quiet.still alone in
    let same : length (imports mid.front) ≡ length (imports old.front) = ap (λ (h : History). length (imports h)) front in
    let count_is : count ≡ length (imports mid.front) = omega (arith, k.least, k.came, same) in
    alone-step old mid new r k.quiet.still.goes.me front (f (k.quiet.alone alone) count_is)

-- ---- a job

nothing-then : (me : ℕ) (h mid now : History) → AddsNothing me h mid → AddsNothing me mid now → AddsNothing me h now
nothing-then me h mid now p q = record { begins = front-trans h mid now p.begins q.begins; mine = q.mine ∙ p.mine }

publishes-behind : (old mid new : Caller) → mid.me ≡ old.me → AddsNothing old.me old.front mid.front → Publishes mid new → Publishes old new
publishes-behind old mid new me p (inl n) = inl (nothing-then old.me old.front mid.front new.front p (subst (λ (k : ℕ). AddsNothing k mid.front new.front) me n))
publishes-behind old mid new me p (inr a) =
    let q : AddsEntry old.me (Publish old.me a.1) a.0 mid.front new.front = subst (λ (k : ℕ). AddsEntry k (Publish k a.1) a.0 mid.front new.front) me a.2 in
    inr (
      a.0,
      a.1,
      record {
        before = q.before;
        begins = front-trans old.front mid.front q.before p.begins q.begins;
        ends = q.ends;
        place_is = q.place_is;
        mine = q.mine ∙ ap (λ (xs : List (ℕ × Past)). xs ++ (a.0, Publish old.me a.1) ∷ []) p.mine;
      },
    )

pub worked : (old mid new : Caller) (goal : ℕ) (job : Job) → Given old goal job mid → HandedOver (name job) mid new → Worked old goal new
worked old mid new goal job p over =
    let h : HandedIn (name job) over.cells mid new = over.handed in
    let both = rises-then old mid 0 0 1 new 0 1 1 p.passes.rises h.rises in
    let later = (marks-later old.front mid.front p.passes.none.begins p.passes.goes.legal.published).last in
    let me : mid.me ≡ old.me = p.passes.goes.me in
    record {
      goes = goes-then old mid new p.passes.goes h.goes;
      rises = rises-less old new (0 + 0) (0 + 1) (1 + 1) 0 1 1 (omega arith) (omega arith) (omega arith) both;
      outs = h.outs ∙ p.passes.outs;
      low = omega (arith, later, p.low);
      publishes = publishes-behind old mid new me p.passes.none h.publishes;
      apart = apart old new (only-own-then old mid new me p.passes.own h.own) (λ build e free. (h.comes_in (build_over old.front build) (p.hands_out build e free).0).1);
      builds = λ build e free.
          let b : Build = build_over old.front build in
          let j = p.hands_out build e free in
          let first = (name job).number in
          record {
            number = first;
            cells = over.cells;
            first = j.0.first;
            planned = subst (λ (x : History). ArePlanned over.cells x) j.1 over.planned;
            builds = builds-behind b.phase b first over.cells old mid new j.1 me (h.comes_in b j.0).0;
          };
    }

-- the job that came out was handed back
pub stopped-back : (old mid new : Caller) (goal : ℕ) (job : Job) → Given old goal job mid → HandedBack (name job) mid new → Still old new
stopped-back old mid new goal job p h =
    let me : mid.me ≡ old.me = p.passes.goes.me in
    record {
      goes = goes-then old mid new p.passes.goes h.passes.goes;
      none = nothing-then old.me old.front mid.front new.front p.passes.none (subst (λ (k : ℕ). AddsNothing k mid.front new.front) me h.passes.none);
      apart = apart old new (only-own-then old mid new me p.passes.own h.passes.own) (λ build e free. (h.comes_back (build_over old.front build) (p.hands_out build e free).0).0);
      front = λ none. if-some (λ (b : Option Build). new.front ≡ old.front) old.alone (λ build e.
          let j = p.hands_out build e (some_of (λ (b : Option Build). list_any is_out (cells_in b) ≡ false) old.alone build e none) in
          (h.comes_back (build_over old.front build) j.0).1 ∙ j.1);
    }
