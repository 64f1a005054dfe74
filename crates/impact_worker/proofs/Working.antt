-- Calls of a desk one after another, for jobs.
use Rattle.std.proofs.Common.{◌≡◌, inl, inr, ℕ, ◌+◌, ◌<◌, true, false, min, List, [], ◌∷◌, ◌++◌, length, refl, sym, ap, subst, ◌∙◌, append_assoc, arith, length-append}
use Rattle.std.specs.Prelude.{Option, Some, None, Result, Ok, Err, IfSome, IsSomeAnd, is_some}
use Rattle.std.specs.List.{list_any}
use Rattle.std.proofs.lemmas.List.{append-nil}
use Rattle.std.proofs.lemmas.List.Elements.{All-nil, All-cons, All-append}
use Rattle.osv_prim.specs.declared.memory.Memory.{Memory}
use Rattle.turn_lock.specs.declared.note.Noted.{Noted}
use Rattle.turn_lock.specs.declared.note.Last.{Last}
use Rattle.turn_lock.specs.History.{saturating_next}
use Rattle.history.specs.declared.past.Past.{Past}
use Rattle.history.specs.declared.past.Past.TheVariants.{Publish}
use Rattle.history.specs.Entries.{History, own}
use Rattle.history.specs.Legality.{IsLegal}
use Rattle.book_model.specs.declared.answers.Pulled.TheVariants as pulled
use Rattle.book_model.specs.declared.answers.Taken.{Taken}
use Rattle.book_model.specs.declared.answers.Taken.TheVariants as taken
use Rattle.book_model.specs.State.{Build, State, is_out, out_count, first_free, cells_in, published, noted}
use Rattle.book_model.specs.Steps.{build_for, GoesOut, Pulls, Takes}
use Rattle.book_model.specs.Sound.{IsSound}
use Rattle.book_model.specs.Desk.{Caller, IsEvent, CountsStay, CountsTurn}
use Rattle.book_model.proofs.Growing.{takes-keeps}
use Rattle.book_model.proofs.Held.{never-out}
use Rattle.snapshot.specs.declared.job.Job.{Job}
use Rattle.snapshot.specs.Jobs.{name, IsJob}
use Rattle.session_model.specs.Alone.{IsAlone}
use Rattle.session_model.specs.Answers.{IsPublicationBy}
use Rattle.session_model.specs.Counts.{Rises}
use Rattle.session_model.proofs.Runs.{goes-refl, goes-then}
use Rattle.session_model.proofs.Apart.{apart-refl, apart-then}
use Rattle.session_model.proofs.Counting.{rises-none, rises-then, rises-less}
use Rattle.desk_calls.specs.Calls.{Still, Given, HandedBack, Publishes}
use Rattle.desk_calls.specs.Publishing.{HandedOver}
use Rattle.desk_calls.proofs.Alone.{finds, leaves, no-job}
use Rattle.desk_calls.proofs.Events.{still, turned-up, quiet}
use Rattle.desk_calls.proofs.Pulling.{pulled-is}
use Rattle.desk_calls.proofs.Publishing.{worked, stopped-back}
use Rattle.impact_worker.specs.Working.{AddsPublications, Works, Helped, AsksAgain, FoundNothing, TakenIs}

-- ---- the caller's own entries

abbrev publishes : ℕ → ℕ × Past → Type 0
publishes me e = IsPublicationBy me e.1

adds-none : (me : ℕ) (h now : History) → own me now ≡ own me h → AddsPublications 0 me h now
adds-none me h now same = record { added = []; mine = same ∙ sym (append-nil (own me h)); few = omega arith; each = All-nil (publishes me) }

adds-then : (n m me : ℕ) (h mid now : History) → AddsPublications n me h mid → AddsPublications m me mid now → AddsPublications (n + m) me h now
adds-then n m me h mid now p q =
    let long : length (p.added ++ q.added) ≡ length p.added + length q.added = length-append p.added q.added in
    record {
      added = p.added ++ q.added;
      mine = q.mine ∙ ap (λ (xs : List (ℕ × Past)). xs ++ q.added) p.mine ∙ append_assoc (own me h) p.added q.added;
      few = omega (arith, long, p.few, q.few);
      each = All-append (publishes me) p.added q.added p.each q.each;
    }

adds-one : (old new : Caller) → Publishes old new → AddsPublications 1 old.me old.front new.front
adds-one old new (inl n) = record { added = []; mine = n.mine ∙ sym (append-nil (own old.me old.front)); few = omega arith; each = All-nil (publishes old.me) }
adds-one old new (inr a) = record {
  added = (a.0, Publish old.me a.1) ∷ [];
  mine = a.2.mine;
  few = omega arith;
  each = All-cons (publishes old.me) (a.0, Publish old.me a.1) [] refl (All-nil (publishes old.me));
}

-- ---- calls one after another

pub works-none : (c : Caller) → IsLegal c.front → Works 0 c c
works-none c legal = record {
  goes = goes-refl c legal;
  adds = adds-none c.me c.front c.front refl;
  rises = rises-none c;
  turns = omega arith;
  busy = refl;
  outs = refl;
  apart = apart-refl c;
}

pub works-then : (n m : ℕ) (a b c : Caller) → Works n a b → Works m b c → Works (n + m) a c
works-then n m a b c p q =
    let both = rises-then a b 0 n (n + n) c 0 m (m + m) p.rises q.rises in
    let later : AddsPublications m a.me b.front c.front = subst (λ (k : ℕ). AddsPublications m k b.front c.front) p.goes.me q.adds in
    record {
      goes = goes-then a b c p.goes q.goes;
      adds = adds-then n m a.me a.front b.front c.front p.adds later;
      rises = rises-less a c (0 + 0) (n + m) (n + n + (m + m)) 0 (n + m) (n + m + (n + m)) (omega arith) (omega arith) (omega arith) both;
      turns = omega (arith, p.turns, q.turns);
      busy = q.busy ∙ p.busy;
      outs = q.outs ∙ p.outs;
      apart = apart-then a b c p.goes.me p.apart q.apart;
    }

pub none-more : (n : ℕ) (a b c : Caller) → Works n a b → Works 0 b c → Works n a c
none-more n a b c p q = let e : n + 0 ≡ n = omega arith in subst (λ (k : ℕ). Works k a c) e (works-then n 0 a b c p q)

pub one-more : (n : ℕ) (a b c : Caller) → Works n a b → Works 1 b c → Works (n + 1) a c
one-more n a b c p q = works-then n 1 a b c p q

pub helped-none : (c : Caller) → IsLegal c.front → Helped 0 c c
helped-none c legal = (0, works-none c legal, refl)

pub helped-more : (did next : ℕ) (a b c : Caller) → next ≡ min (did + 1) 18446744073709551615 → Helped did a b → Works 1 b c → Helped next a c
helped-more did next a b c e p q = (p.0 + 1, one-more p.0 a b c p.1 q, let is = p.2 in omega (arith, e, is))

pub helped-same : (did : ℕ) (a b c : Caller) → Helped did a b → Works 0 b c → Helped did a c
helped-same did a b c p q = (p.0, none-more p.0 a b c p.1 q, p.2)

pub asks-since : (n : ℕ) (a b c : Caller) → Works n a b → AsksAgain 0 b c → AsksAgain n a c
asks-since n a b c w k = let r = w.rises.looks_rose in omega (arith, r, k)

over-behind : (alone : Option (Option Build)) (out : ℕ) (c : Caller) → is_some alone ≡ true → IfSome alone (λ b. list_any is_out (cells_in b) ≡ false)
    → ((build : Option Build) → alone ≡ Some build → list_any is_out (cells_in build) ≡ false → (out ≡ 0) × IsAlone c) → (out ≡ 0) × IsAlone c
over-behind None out c some free f = absurd cc
over-behind (Some build) out c some free f = f build refl free

pub nothing-since : (n out : ℕ) (a b c : Caller) → Works n a b → FoundNothing 0 out b c → FoundNothing n out a c
nothing-since n out a b c w f = record {
  asked = asks-since n a b c w f.asked;
  told = f.told ∙ ap (λ (k : ℕ). record { serial = saturating_next c.last.found.serial; number = out; by = k; owner = None; kind = Noted.Nothing }) w.goes.me;
  over = λ build e free.
      over-behind b.alone out c (w.apart.still ∙ ap (λ (x : Option (Option Build)). is_some x) e) (w.apart.no_job (no-job a build e free)) f.over;
}

-- ---- a job is asked for

-- the same call told otherwise
told-as : (first second : State → State → Type 0) (old new : Caller) → (v : IsEvent first old new) → second v.found v.left → IsEvent second old new
told-as first second old new v acts = record {
  found = v.found;
  left = v.left;
  acts = acts;
  same_settings = v.same_settings;
  given = v.given;
  begins = v.begins;
  own = v.own;
  untouched = v.untouched;
  sound_found = v.sound_found;
  sound_left = v.sound_left;
  lock = v.lock;
  settings = v.settings;
  front = v.front;
  alone = v.alone;
  me = v.me;
  last = v.last;
}

goes-out : (me : ℕ) (s t : State) (job : Job) (build : Option Build) → IsSomeAnd build (λ b. GoesOut name IsJob me s b job t) → GoesOut name IsJob me s (build_for s build) job t
goes-out me s t job None g = absurd g
goes-out me s t job (Some b) g = g

-- it came as to a caller that wants one import more than are published
taken-job : (job : Job) (old new : Caller) → IsEvent (λ s t. Takes name IsJob old.me s (Ok (taken.Job job)) t) old new → CountsStay old new → (goal : ℕ) × Given old goal job new
taken-job job old new v k =
    let goal : ℕ = published v.found.history + 1 in
    let out : GoesOut name IsJob old.me v.found (build_for v.found v.found.build) job v.left = goes-out old.me v.found v.left job v.found.build v.acts in
    let low : published v.found.history < goal = omega arith in (
      goal,
      pulled-is goal (Ok (pulled.Job job)) old new
          (told-as (λ s t. Takes name IsJob old.me s (Ok (taken.Job job)) t) (λ s t. Pulls name IsJob old.me goal s (Ok (pulled.Job job)) t) old new v (low, out)) k,
    )

idles : (old new : Caller) → Still old new → Rises 0 0 1 old new → CountsStay old new → Works 0 old new
idles old new s r k = record {
  goes = s.goes;
  adds = adds-none old.me old.front new.front s.none.mine;
  rises = rises-less old new 0 0 1 0 0 (0 + 0) (omega arith) (omega arith) (omega arith) r;
  turns = omega (arith, k.turns);
  busy = k.busy;
  outs = k.outs;
  apart = s.apart;
}

-- no build is open where no job of it is free nor out
same-cells : (s : State) (build : Option Build) (b : Build) → build ≡ Some b → cells_in build ≡ (build_for s build).cells
same-cells s None b e = absurd cc
same-cells s (Some x) b e = refl

none-open : (me out : ℕ) (s t : State) (build : Option Build) → IsSound s → s.build ≡ build → list_any is_out (cells_in s.build) ≡ false
    → Takes name IsJob me s (Ok (taken.Nothing out)) t → (out ≡ 0) × (build ≡ None)
none-open me out s t None sound e free st = (st.1 ∙ ap (λ (x : Option Build). out_count (cells_in x)) e, refl)
none-open me out s t (Some b) sound e free st =
    let goal : ℕ = published s.history + 1 in
    let low : published s.history < goal = omega arith in
    let found : cells_in s.build ≡ (build_for s s.build).cells = same-cells s s.build b e in
    absurd (never-out name IsJob me goal out s (noted s Noted.Out me out None) sound free (low, ap first_free (sym found) ∙ st.0, st.1 ∙ ap out_count found, refl))

told-nothing : (out : ℕ) (old new : Caller) → IsEvent (λ s t. Takes name IsJob old.me s (Ok (taken.Nothing out)) t) old new → CountsStay old new → Works 0 old new × FoundNothing 0 out old new
told-nothing out old new v k =
    let does : State → State → Type 0 = λ s t. Takes name IsJob old.me s (Ok (taken.Nothing out)) t in
    let up = turned-up does old new v in
    let left : new.last.left ≡ v.left.note = ap (λ (l : Last). l.left) v.last in
    let found : new.last.found.serial ≡ v.found.note.serial = ap (λ (l : Last). l.found.serial) v.last in
    let s = still does old new v (takes-keeps name IsJob old.me v.found v.left (Ok (taken.Nothing out)) v.acts)
    (ap (λ (s : State). s.history) v.acts.2) (ap (λ (s : State). s.build) v.acts.2) in (
      idles old new s (record { busy_rose = omega (arith, k.busy); turns_rose = omega (arith, k.turns); looks_rose = up }) k,
      record {
        asked = omega (arith, up);
        told = left ∙ ap (λ (s : State). s.note) v.acts.2
            ∙ ap (λ (n : ℕ). record { serial = saturating_next n; number = out; by = old.me; owner = None; kind = Noted.Nothing }) (sym found);
        over = λ build e free.
            let there = (finds does old new build e v).0 in
            let none = none-open old.me out v.found v.left build v.sound_found there (ap (λ (x : Option Build). list_any is_out (cells_in x)) there ∙ free) v.acts in
            (none.0, leaves does old new build e v ∙ ap (λ (x : Option Build). Some x) (ap (λ (s : State). s.build) v.acts.2 ∙ there ∙ none.1));
      },
    )

pub taken-is : (answer : Result (Taken Job) Memory) (old new : Caller) → IsEvent (λ s t. Takes name IsJob old.me s answer t) old new → CountsStay old new → TakenIs old answer new
taken-is (Ok (taken.Job job)) old new v k = (taken-job job old new v k, k)
taken-is (Ok (taken.Nothing out)) old new v k = told-nothing out old new v k
taken-is (Err memory) old new v k =
    let q = quiet (λ s t. Takes name IsJob old.me s (Err memory) t) old new v v.acts k in
    let up = q.rises.looks_rose in
    (idles old new q.still q.rises k, omega (arith, up))

-- ---- a job is done

pub did-one : (old mid new : Caller) (job : Job) → TakenIs old (Ok (taken.Job job)) mid → HandedOver (name job) mid new → CountsTurn mid new → Works 1 old new
did-one old mid new job t h k =
    let g : Given old t.0.0 job mid = t.0.1 in
    let w = worked old mid new t.0.0 job g h in
    let both = rises-then old mid 0 0 1 new 0 1 1 g.passes.rises h.handed.rises in
    let before : mid.turns ≡ old.turns = t.1.turns in
    let behind : new.turns ≡ saturating_next mid.turns = k.turns in
    record {
      goes = w.goes;
      adds = adds-one old new w.publishes;
      rises = rises-less old new (0 + 0) (0 + 1) (1 + 1) 0 1 (1 + 1) (omega arith) (omega arith) (omega arith) both;
      turns = omega (arith, before, behind);
      busy = k.busy ∙ t.1.busy;
      outs = w.outs;
      apart = w.apart;
    }

pub gave-back : (old mid new : Caller) (job : Job) → TakenIs old (Ok (taken.Job job)) mid → HandedBack (name job) mid new → CountsStay mid new → Works 0 old new × AsksAgain 0 old new
gave-back old mid new job t h k =
    let g : Given old t.0.0 job mid = t.0.1 in
    let both = rises-then old mid 0 0 1 new 0 0 1 g.passes.rises h.passes.rises in
    let r : Rises 0 0 1 old new = rises-less old new (0 + 0) (0 + 0) (1 + 1) 0 0 1 (omega arith) (omega arith) (omega arith) both in
    let up = r.looks_rose in (
      idles old new (stopped-back old mid new t.0.0 job g h) r (record { busy = k.busy ∙ t.1.busy; turns = k.turns ∙ t.1.turns; outs = k.outs ∙ t.1.outs }),
      omega (arith, up),
    )
