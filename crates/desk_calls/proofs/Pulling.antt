-- What an event with a job comes to for a session.
use Rattle.std.proofs.Common.{◌≡◌, ◌≢◌, inl, inr, ℕ, ◌+◌, ◌<◌, ◌≤◌, false, List, [], ◌∷◌, ◌++◌, length, set, refl, sym, ap, subst, ◌∙◌, arith}
use Rattle.std.specs.Prelude.{Option, Some, None, Result, Ok, Err}
use Rattle.std.specs.List.{list_any}
use mathlib.Core.List.{IsPrefix}
use Rattle.std.proofs.lemmas.List.{set-set}
use Rattle.osv_prim.specs.declared.memory.Memory.{Memory}
use Rattle.history.specs.declared.past.Past.TheVariants.{Publish}
use Rattle.history.specs.Entries.{History, imports, newest, upto_of}
use Rattle.history.specs.Legality.{marks, start}
use Rattle.history.proofs.Entries.{last_from}
use Rattle.book_model.specs.declared.answers.Pulled.{Pulled}
use Rattle.book_model.specs.declared.answers.Pulled.TheVariants as pulled
use Rattle.book_model.specs.declared.answers.Progress.{Progress}
use Rattle.book_model.specs.declared.answers.Progress.TheVariants as progress
use Rattle.book_model.specs.declared.answers.Strange.{Strange}
use Rattle.book_model.specs.State.{Kind, Plan, Piece, Assemble, Cell, Free, OutTo, Done, Build, State, is_out, opened, filled, moved, cells_in, published}
use Rattle.book_model.specs.Jobs.{JobName, Outcome, JobHolds, owner_in, owner}
use Rattle.book_model.specs.Steps.{build_for, GoesOut, Pulls, GoesOn, Finishes, freed, GivesBack}
use Rattle.book_model.specs.Steps as steps
use Rattle.book_model.specs.Desk.{Caller, IsEvent, CountsStay, CountsTurn, CountsOut, CountsPull}
use Rattle.book_model.proofs.Growing.{pulls-keeps, finishes-keeps, gives_back-keeps}
use Rattle.book_model.proofs.Own.{going-adds, strange-adds, publish-adds}
use Rattle.book_model.proofs.Owned.{owned}
use Rattle.book_model.proofs.Held.{pulls-out, never-out, out-owned}
use Rattle.snapshot.specs.declared.job.Job.{Job}
use Rattle.snapshot.specs.Jobs.{name, IsJob}
use Rattle.session_model.specs.Alone.{HasNoJob}
use Rattle.session_model.specs.Counts.{Rises}
use Rattle.desk_calls.specs.Alone.{build_over, HasJob, HandsOut, BuildsOn, ComesIn, ComesBack}
use Rattle.desk_calls.specs.Calls.{Reached, Given, AreOut, PulledIs, HandedIn, HandedBack, Publishes}
use Rattle.desk_calls.proofs.Alone.{if-some, finds, leaves, only-own, no-job, none-out-again, none-out-over, built-free}
use Rattle.desk_calls.proofs.Events.{goes, nothing, still, turned-up, quiet, passes, own-entry, own-front}

pub published-last : (h : History) → (marks h).last ≡ published h
published-last h = last_from start h

-- ---- a job is asked for

reached : (goal snapshot upto : ℕ) (old new : Caller) → IsEvent (λ s t. Pulls name IsJob old.me goal s (Ok (pulled.Reached snapshot upto)) t) old new → CountsStay old new → Reached old goal snapshot upto new
reached goal snapshot upto old new v k =
    let same : new.front ≡ v.found.history = v.front ∙ ap (λ (s : State). s.history) v.acts.3 in
    let low : goal ≤ published v.found.history = v.acts.0 in
    let is : upto ≡ published v.found.history = v.acts.2 in
    record {
      quiet = quiet (λ s t. Pulls name IsJob old.me goal s (Ok (pulled.Reached snapshot upto)) t) old new v v.acts.3 k;
      reaches = omega (arith, low, is);
      snapshot_is = v.acts.1 ∙ ap newest (sym same);
      upto_is = is ∙ ap (λ (n : ℕ). upto_of v.found.history n) (sym v.acts.1) ∙ ap (λ (h : History). upto_of h snapshot) (sym same);
    }

over-is : (s : State) (h : History) (build : Option Build) → s.history ≡ h → build_for s build ≡ build_over h build
over-is s h None e = ap (λ (x : History). opened (length (imports x))) e
over-is s h (Some b) e = refl

hands-out : (goal : ℕ) (job : Job) (old new : Caller) → IsEvent (λ s t. Pulls name IsJob old.me goal s (Ok (pulled.Job job)) t) old new → HandsOut (name job) old new
hands-out goal job old new v build e free =
    let f = finds (λ s t. Pulls name IsJob old.me goal s (Ok (pulled.Job job)) t) old new build e v in
    let b : Build = build_over old.front build in
    let is : build_for v.found v.found.build ≡ b = ap (λ (x : Option Build). build_for v.found x) f.0 ∙ over-is v.found old.front build f.1 in
    let g : GoesOut name IsJob old.me v.found b job v.left = subst (λ (x : Build). GoesOut name IsJob old.me v.found x job v.left) is v.acts.1 in
    let n : ℕ = (name job).number in
    let built : v.left.build ≡ Some (moved b n (OutTo old.me)) = ap (λ (s : State). s.build) g.left in
    let held : owner v.left (name job) ≡ Some old.me = out-owned name IsJob old.me v.found b job v.left g in (
      record {
        there = leaves (λ s t. Pulls name IsJob old.me goal s (Ok (pulled.Job job)) t) old new build e v ∙ ap (λ (x : Option Build). Some x) built ∙ ap (λ (by : ℕ). Some (Some (moved b n (OutTo by)))) (sym v.me);
        owned = ap (λ (by : ℕ). owner_in (Some (moved b n (OutTo by))) (newest new.front + 1) (name job)) v.me
            ∙ ap (λ (h : History). owner_in (Some (moved b n (OutTo old.me))) (newest h + 1) (name job)) v.front
            ∙ ap (λ (x : Option Build). owner_in x (newest v.left.history + 1) (name job)) (sym built)
            ∙ held ∙ ap (λ (by : ℕ). Some by) (sym v.me);
        free = none-out-over old.front build free;
        first = g.free;
      },
      v.front ∙ ap (λ (s : State). s.history) g.left ∙ f.1,
    )

given : (goal : ℕ) (job : Job) (old new : Caller) → IsEvent (λ s t. Pulls name IsJob old.me goal s (Ok (pulled.Job job)) t) old new → CountsStay old new → Given old goal job new
given goal job old new v k =
    let same : new.front ≡ v.found.history = v.front ∙ ap (λ (s : State). s.history) v.acts.1.left in
    let low : published v.found.history < goal = v.acts.0 in
    let last : (marks new.front).last ≡ published v.found.history = ap (λ (h : History). (marks h).last) same ∙ published-last v.found.history in
    record {
      passes = passes (λ s t. Pulls name IsJob old.me goal s (Ok (pulled.Job job)) t) old new v
          (pulls-keeps name IsJob old.me goal v.found v.left (Ok (pulled.Job job)) v.acts) (ap (λ (s : State). s.history) v.acts.1.left) k;
      low = omega (arith, low, last);
      holds = subst (λ (h : History). JobHolds name IsJob job h) (sym same) v.acts.1.holds;
      hands_out = hands-out goal job old new v;
    }

are-out : (goal out : ℕ) (old new : Caller) → IsEvent (λ s t. Pulls name IsJob old.me goal s (Ok (pulled.Out out)) t) old new → CountsOut out old new → AreOut old out new
are-out goal out old new v k = record {
  still = still (λ s t. Pulls name IsJob old.me goal s (Ok (pulled.Out out)) t) old new v
      (pulls-keeps name IsJob old.me goal v.found v.left (Ok (pulled.Out out)) v.acts) (ap (λ (s : State). s.history) v.acts.3) (ap (λ (s : State). s.build) v.acts.3);
  rises = record {
    busy_rose = omega (arith, k.busy);
    turns_rose = omega (arith, k.turns);
    looks_rose = turned-up (λ s t. Pulls name IsJob old.me goal s (Ok (pulled.Out out)) t) old new v;
  };
  outs = k.outs;
  some = pulls-out name IsJob old.me goal out v.found v.left v.sound_found v.acts;
  mine = if-some (λ (b : Option Build). list_any is_out (cells_in b) ≢ false) old.alone (λ build e free.
      let there = (finds (λ s t. Pulls name IsJob old.me goal s (Ok (pulled.Out out)) t) old new build e v).0 in
      never-out name IsJob old.me goal out v.found v.left v.sound_found (ap (λ (x : Option Build). list_any is_out (cells_in x)) there ∙ free) v.acts);
}

pub pulled-is : (goal : ℕ) (answer : Result (Pulled Job) Memory) (old new : Caller) → IsEvent (λ s t. Pulls name IsJob old.me goal s answer t) old new → CountsPull answer old new → PulledIs old goal answer new
pulled-is goal (Ok (pulled.Reached snapshot upto)) old new v k = reached goal snapshot upto old new v k
pulled-is goal (Ok (pulled.Job job)) old new v k = given goal job old new v k
pulled-is goal (Ok (pulled.Out out)) old new v k = are-out goal out old new v k
pulled-is goal (Err e) old new v k = quiet (λ s t. Pulls name IsJob old.me goal s (Err e) t) old new v v.acts k

-- ---- a job of a caller alone is handed in

-- the states that a call with the job found and left
record Lone (job : JobName) (b : Build) (found left : State) (old new : Caller) : Type 0 where
  there : found.build ≡ Some (moved b job.number (OutTo old.me))
  history : found.history ≡ old.front
  mine : owner found job ≡ Some old.me
  upto : job.upto ≡ b.upto
  kind : job.kind ≡ b.phase
  alone : new.alone ≡ Some left.build
  front : new.front ≡ left.history

lone : (does : State → State → Type 0) (job : JobName) (b : Build) (old new : Caller) → HasJob b job old → (v : IsEvent does old new) → Lone job b v.found v.left old new
lone does job b old new j v =
    let build : Option Build = Some (moved b job.number (OutTo old.me)) in
    let f = finds does old new build j.there v in
    let o = owned build (newest old.front + 1) job old.me j.owned in
    let same : o.b ≡ moved b job.number (OutTo old.me) = cc in
    record {
      there = f.0;
      history = f.1;
      mine = ap (λ (x : Option Build). owner_in x (newest v.found.history + 1) job) f.0 ∙ ap (λ (h : History). owner_in build (newest h + 1) job) f.1 ∙ j.owned;
      upto = o.upto ∙ ap (λ (x : Build). x.upto) same;
      kind = o.kind ∙ ap (λ (x : Build). x.phase) same;
      alone = leaves does old new build j.there v;
      front = v.front;
    }

goes-on : (k : Kind) (done : Outcome) (b : Build) (found left : State) (old new : Caller) → Lone done.job b found left old new → GoesOn k done found left → BuildsOn k b done.job.number done.cells old new
goes-on Plan done b found left old new l g =
    (l.alone ∙ ap (λ (s : State). Some s.build) g ∙ ap (λ (n : ℕ). Some (Some (filled n done.cells))) l.upto, l.front ∙ ap (λ (s : State). s.history) g ∙ l.history)
goes-on Piece done b found left old new l g = (
  l.alone ∙ ap (λ (s : State). Some s.build) g
      ∙ ap (λ (x : Option Build). Some (Some (filled done.job.upto (set (cells_in x) done.job.number Done)))) l.there
      ∙ ap (λ (cells : List Cell). Some (Some (filled done.job.upto cells))) (set-set b.cells done.job.number (OutTo old.me) Done)
      ∙ ap (λ (n : ℕ). Some (Some (filled n (set b.cells done.job.number Done)))) l.upto,
  l.front ∙ ap (λ (s : State). s.history) g ∙ l.history,
)
goes-on Assemble done b found left old new l g = absurd g

published-step : (k : Kind) (done : Outcome) (b : Build) (found left : State) (entry snapshot : ℕ) (old new : Caller) → Lone done.job b found left old new → steps.Publishes k old.me done found entry snapshot left
    → BuildsOn k b done.job.number done.cells old new
published-step Plan done b found left entry snapshot old new l p = absurd p
published-step Piece done b found left entry snapshot old new l p = absurd p
published-step Assemble done b found left entry snapshot old new l p = (
  l.alone ∙ ap (λ (s : State). Some s.build) p.2,
  l.front ∙ ap (λ (s : State). s.history) p.2 ∙ ap (λ (h : History). h ++ Publish old.me done.job.upto ∷ []) l.history ∙ ap (λ (n : ℕ). old.front ++ Publish old.me n ∷ []) l.upto,
)

builds-on : (done : Outcome) (answer : Result Progress Strange) (b : Build) (found left : State) (old new : Caller) → Lone done.job b found left old new → Finishes old.me done found answer left
    → BuildsOn done.job.kind b done.job.number done.cells old new
builds-on done (Ok progress.Going) b found left old new l st = goes-on done.job.kind done b found left old new l st.1
builds-on done (Ok (progress.Published entry snapshot)) b found left old new l st = published-step done.job.kind done b found left entry snapshot old new l st.1
builds-on done (Err e) b found left old new l st = absurd (st.0 l.mine)

comes-in : (done : Outcome) (answer : Result Progress Strange) (old new : Caller) → list_any is_out done.cells ≡ false → IsEvent (λ s t. Finishes old.me done s answer t) old new → ComesIn done.job done.cells old new
comes-in done answer old new free v b j =
    let l = lone (λ s t. Finishes old.me done s answer t) done.job b old new j v in
    let p = subst (λ (k : Kind). BuildsOn k b done.job.number done.cells old new) l.kind (builds-on done answer b v.found v.left old new l v.acts) in
    (p, built-free b.phase b done.job.number done.cells old new j.free free p)

one-turn : (does : State → State → Type 0) (old new : Caller) → IsEvent does old new → CountsTurn old new → Rises 0 1 1 old new
one-turn does old new v k = record { busy_rose = omega (arith, k.busy); turns_rose = omega (arith, k.turns); looks_rose = turned-up does old new v }

-- what it added of the caller's own
adds : (done : Outcome) (answer : Result Progress Strange) (old new : Caller) → IsEvent (λ s t. Finishes old.me done s answer t) old new → IsPrefix old.front new.front × Publishes old new
adds done (Ok progress.Going) old new v = let a = going-adds done old new v in (a.begins, inl (nothing old new a))
adds done (Ok (progress.Published entry snapshot)) old new v =
    let a = (publish-adds done entry snapshot old new v).0 in
    (own-front (Publish old.me done.job.upto) entry old new a, inr (entry, done.job.upto, own-entry (Publish old.me done.job.upto) entry old new a))
adds done (Err e) old new v = let a = strange-adds done e old new v in (a.begins, inl (nothing old new a))

pub handed-in : (done : Outcome) (answer : Result Progress Strange) (old new : Caller) → list_any is_out done.cells ≡ false → IsEvent (λ s t. Finishes old.me done s answer t) old new → CountsTurn old new
    → HandedIn done.job done.cells old new
handed-in done answer old new free v k =
    let a = adds done answer old new v in
    record {
      goes = goes (λ s t. Finishes old.me done s answer t) old new v a.0;
      rises = one-turn (λ s t. Finishes old.me done s answer t) old new v k;
      outs = k.outs;
      publishes = a.1;
      own = only-own (λ s t. Finishes old.me done s answer t) old new v (finishes-keeps old.me done v.found v.left answer v.acts);
      comes_in = comes-in done answer old new free v;
    }

-- ---- a job is handed back

back_left : {U : Type 0} (by : ℕ) (job : JobName) (answer : Result U Strange) (found left : State) → GivesBack by job found answer left → left.history ≡ found.history
back_left by job (Ok done) found left st = ap (λ (s : State). s.history) st.1
back_left by job (Err e) found left st = ap (λ (s : State). s.history) st.3

back : {U : Type 0} (job : JobName) (answer : Result U Strange) (b : Build) (found left : State) (old new : Caller) → list_any is_out b.cells ≡ false → Lone job b found left old new → GivesBack old.me job found answer left → HasNoJob new
back job (Ok done) b found left old new free l st =
    no-job new (Some (freed job (cells_in found.build))) (l.alone ∙ ap (λ (s : State). Some s.build) st.1)
    (ap (λ (x : Option Build). list_any is_out (set (cells_in x) job.number Free)) l.there ∙ none-out-again b.cells job.number (OutTo old.me) Free free refl)
back job (Err e) b found left old new free l st = absurd (st.0 l.mine)

comes-back : {U : Type 0} (job : JobName) (answer : Result U Strange) (old new : Caller) → IsEvent (λ s t. GivesBack old.me job s answer t) old new → ComesBack job old new
comes-back job answer old new v b j =
    let l = lone (λ s t. GivesBack old.me job s answer t) job b old new j v in
    (back job answer b v.found v.left old new j.free l v.acts, v.front ∙ back_left old.me job answer v.found v.left v.acts ∙ l.history)

pub given-back : {U : Type 0} (job : JobName) (answer : Result U Strange) (old new : Caller) → IsEvent (λ s t. GivesBack old.me job s answer t) old new → CountsStay old new → HandedBack job old new
given-back job answer old new v k = record {
  passes = passes (λ s t. GivesBack old.me job s answer t) old new v (gives_back-keeps old.me job v.found v.left answer v.acts) (back_left old.me job answer v.found v.left v.acts) k;
  comes_back = comes-back job answer old new v;
}
