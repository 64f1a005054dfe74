-- Jobs that callers have, while the book goes on.
use Rattle.std.proofs.Common.{◌≡◌, ℕ, zero, suc, ◌+◌, ◌-◌, ◌<◌, Bool, true, false, cond, List, [], ◌∷◌, ◌++◌, length, map, take, get_or, set, refl, sym, ap, subst, ◌∙◌, arith}
use Rattle.std.specs.Prelude.{Option, Some, None, Ok, IfSome, IsSomeAnd, option_map, is_some, ◌==◌}
use Rattle.std.specs.List.{list_all}
use mathlib.Core.List.{IsPrefix}
use Rattle.std.proofs.Math.ListN.{get_or-map}
use Rattle.std.proofs.lemmas.Bool.{eqb-true, eqb-false}
use Rattle.std.proofs.lemmas.List.{append-nil, length-set, get_or-set_same, get_or-set_other, set-get_or, set-set, map-set, length-append}
use Rattle.std.proofs.lemmas.List.Folds.{list_all_at}
use Rattle.std.proofs.lemmas.List.Quantifiers.{position-Some}
use Rattle.history.specs.declared.past.Past.TheVariants.{Publish}
use Rattle.history.specs.Entries.{History, imports, newest, snap}
use Rattle.turn_lock.specs.declared.note.Noted.{Noted}
use Rattle.book_model.specs.declared.answers.Progress.{Progress}
use Rattle.book_model.specs.declared.answers.Progress.TheVariants as progress
use Rattle.book_model.specs.declared.answers.Strange.{Strange}
use Rattle.book_model.specs.declared.answers.Pulled.TheVariants as pulled
use Rattle.book_model.specs.declared.answers.Taken.TheVariants as taken
use Rattle.book_model.specs.State.{Kind, Plan, Piece, Assemble, Cell, Free, OutTo, Done, Build, State, is_free, is_done, holder, assembling, with_pieces, filled, moved, cells_in, with_build, noted}
use Rattle.book_model.specs.Jobs.{JobName, Outcome, is_of, owner_in, owner, JobHolds}
use Rattle.book_model.specs.Steps.{GoesOut, build_for, Pulls, Takes, IsStrange, GoesOn, Publishes, Finishes, freed}
use Rattle.book_model.specs.Sound.{IsOneJob, IsOpen, IsSound}
use Rattle.book_model.proofs.Owned.{some_of, owned, held_at}
use Rattle.book_model.proofs.Held.{out-owned}
use Rattle.book_model.proofs.Lasting.{job-lasts}
use Rattle.snapshot.specs.declared.job.Job.{Job}
use Rattle.snapshot.specs.Jobs.{name, IsJob, IsSomeJob}
use Rattle.schedule.specs.Machine.{none_of, Gets, Spends}
use Rattle.schedule.specs.Holding.{machine, IsHeld, IsHolding}

-- ---- callers without a job

none-long : (X : Type 0) (n : ℕ) → length (none_of {X = X} n) ≡ n
none-long X zero = refl
none-long X (suc n) = let k : length (none_of {X = X} n) ≡ n = none-long X n in omega (arith, k)

pub none-map : {X Y : Type 0} (f : X → Y) (n : ℕ) → map (λ (o : Option X). option_map f o) (none_of n) ≡ none_of n
none-map f zero = refl
none-map {Y = Y} f (suc n) = ap (λ (xs : List (Option Y)). None ∷ xs) (none-map f n)

pub none-push : (X : Type 0) (n : ℕ) → none_of {X = X} n ++ None ∷ [] ≡ none_of (n + 1)
none-push X zero = refl
none-push X (suc n) =
    let e : suc (n + 1) ≡ suc n + 1 = omega arith in
    ap (λ (xs : List (Option X)). None ∷ xs) (none-push X n) ∙ ap (λ (k : ℕ). none_of {X = X} k) e

none-at : (X : Type 0) (n i : ℕ) → get_or (none_of {X = X} n) i None ≡ None
none-at X zero zero = refl
none-at X zero (suc i) = refl
none-at X (suc n) zero = refl
none-at X (suc n) (suc i) = none-at X n i

none_some : {X : Type 0} {x : X} → None ≡ Some x → ⊥
none_some e = cc

pub none-holding : (s : State) (held : List (Option Job)) → held ≡ none_of s.callers → IsHolding s held
none-holding s held e =
    record {
      long = ap (λ (xs : List (Option Job)). length xs) e ∙ none-long Job s.callers;
      each = λ by job is. absurd (none_some (sym (ap (λ (xs : List (Option Job)). get_or xs by None) e ∙ none-at Job s.callers by) ∙ is));
    }

-- ---- while others call

-- entries that are no publication leave them, and so does all that leaves the history and the build
pub holding-stays : (s t : State) (held : List (Option Job)) → t.build ≡ s.build → newest t.history ≡ newest s.history → t.callers ≡ s.callers → IsPrefix s.history t.history → IsHolding s held → IsHolding t held
holding-stays s t held build same callers front h =
    record {
      long = h.long ∙ sym callers;
      each = λ by job is.
          let k = h.each by job is in (
            ap (λ (b : Option Build). owner_in b (newest t.history + 1) (name job)) build ∙ ap (λ (n : ℕ). owner_in s.build (n + 1) (name job)) same ∙ k.0,
            job-lasts name IsJob job s.history t.history front k.1,
          );
    }

-- a further caller has none
pub holding-more : (s t : State) (held now : List (Option Job)) → now ≡ held ++ None ∷ [] → t.build ≡ s.build → t.history ≡ s.history → t.callers ≡ s.callers + 1 → IsHolding s held → IsHolding t now
holding-more s t held now pushed build same callers h =
    subst (λ (xs : List (Option Job)). IsHolding t xs) (sym pushed)
    (record {
      long = (let k : length (held ++ None ∷ []) ≡ length held + 1 = length-append held (None ∷ []) in omega (arith, k, h.long, callers));
      each = λ by job is.
          let k = h.each by job (sym (at_end held by) ∙ is) in (
            ap (λ (b : Option Build). owner_in b (newest t.history + 1) (name job)) build ∙ ap (λ (x : History). owner_in s.build (newest x + 1) (name job)) same ∙ k.0,
            subst (λ (x : History). JobHolds name IsJob job x) (sym same) k.1,
          );
    })
  where
    at_end : (xs : List (Option Job)) (i : ℕ) → get_or (xs ++ None ∷ []) i None ≡ get_or xs i None
    at_end [] zero = refl
    at_end [] (suc i) = refl
    at_end (x ∷ xs) zero = refl
    at_end (x ∷ xs) (suc i) = at_end xs i

-- ---- the jobs of others

-- they stay out to whoever has them
abbrev pub KeepsOthers : ℕ → State → State → Type 0
KeepsOthers by s t = (job : JobName) (me : ℕ) → (me ≡ by → ⊥) → owner s job ≡ Some me → owner t job ≡ Some me

same_some : {X : Type 0} {x y : X} → Some x ≡ Some y → x ≡ y
same_some e = cc

moved-kept : (b : Build) (next : ℕ) (job : JobName) (n : ℕ) (c : Cell) → (job.number ≡ n → ⊥) → owner_in (Some (moved b n c)) next job ≡ owner_in (Some b) next job
moved-kept b next job n c other = ap (λ (x : Cell). cond (is_of b next job) (holder x) None) (get_or-set_other b.cells n job.number c Done other)

-- two callers don't have the job of one number
not-same : (cells : List Cell) (n m by me : ℕ) → holder (get_or cells n Done) ≡ Some by → holder (get_or cells m Done) ≡ Some me → (me ≡ by → ⊥) → m ≡ n → ⊥
not-same cells n m by me out held other same = other (same_some (sym held ∙ ap (λ (k : ℕ). holder (get_or cells k Done)) same ∙ out))

not-free : (cells : List Cell) (n m me : ℕ) → is_free (get_or cells n Done) ≡ true → holder (get_or cells m Done) ≡ Some me → m ≡ n → ⊥
not-free cells n m me free held same = go (get_or cells m Done) (ap (λ (k : ℕ). is_free (get_or cells k Done)) same ∙ free) held
  where
    go : (c : Cell) → is_free c ≡ true → holder c ≡ Some me → ⊥
    go Free e h = absurd cc
    go (OutTo x) e h = absurd cc
    go Done e h = absurd cc

-- the cell of a job that somebody has, in this build
cell-of : (b : Build) (next : ℕ) (job : JobName) (me : ℕ) → owner_in (Some b) next job ≡ Some me → (job.kind ≡ b.phase) × (holder (get_or b.cells job.number Done) ≡ Some me)
cell-of b next job me out =
    let w = owned (Some b) next job me out in
    let is : w.b ≡ b = sym (same_some w.there) in
    (w.kind ∙ ap (λ (x : Build). x.phase) is, subst (λ (x : Build). holder (get_or x.cells job.number Done) ≡ Some me) is w.cell)

-- a job went out
out_kept : (s t : State) (o : Option Build) (by : ℕ) (job : Job) → s.build ≡ o → GoesOut name IsJob by s (build_for s o) job t → (x : JobName) (me : ℕ) → owner_in o (newest s.history + 1) x ≡ Some me → owner t x ≡ Some me
out_kept s t None by job there g x me out = absurd (none_some out)
out_kept s t (Some b) by job there g x me out =
    let free : is_free (get_or b.cells (name job).number Done) ≡ true = (position-Some is_free b.cells (name job).number Done g.free).1 in
    let cell = (cell-of b (newest s.history + 1) x me out).1 in
    ap (λ (q : State). owner q x) g.left ∙ moved-kept b (newest s.history + 1) x (name job).number (OutTo by) (not-free b.cells (name job).number x.number me free cell) ∙ out

went-kept : (s t : State) (by : ℕ) (job : Job) → GoesOut name IsJob by s (build_for s s.build) job t → KeepsOthers by s t
went-kept s t by job g x me other out = out_kept s t s.build by job refl g x me out

-- a job was handed in: where its kind has but one nobody else has a job
one_number : (n m : ℕ) (cells : List Cell) → length cells ≡ 1 → n < length cells → m < length cells → m ≡ n
one_number n m cells one lt below = omega (arith, one, lt, below)

alone : (b : Build) (n m by me : ℕ) → length b.cells ≡ 1 → holder (get_or b.cells n Done) ≡ Some by → holder (get_or b.cells m Done) ≡ Some me → (me ≡ by → ⊥) → ⊥
alone b n m by me one out held other = not-same b.cells n m by me out held other (one_number n m b.cells one (held_at b.cells n by out) (held_at b.cells m me held))

undone-filled : (upto : ℕ) (cells : List Cell) → list_all is_done cells ≡ false → filled upto cells ≡ with_pieces upto cells
undone-filled upto cells e = ap (λ (t : Bool). cond t (assembling upto) (with_pieces upto cells)) e

held_undone : (c : Cell) (me : ℕ) → holder c ≡ Some me → is_done c ≡ false
held_undone Free me e = refl
held_undone (OutTo x) me e = refl
held_undone Done me e = absurd cc

abbrev build_at : ℕ → Kind → List Cell → Build
build_at upto kind cells = record { upto = upto; phase = kind; cells = cells }

-- a piece is done and another is out
piece_kept : (b : Build) (next upto : ℕ) (x : JobName) (n me : ℕ) → upto ≡ b.upto → b.phase ≡ Piece → (x.number ≡ n → ⊥) → owner_in (Some b) next x ≡ Some me → owner_in (Some (filled upto (set b.cells n Done))) next x ≡ Some me
piece_kept b next upto x n me same at other out =
    let cell = (cell-of b next x me out).1 in
    let there : holder (get_or (set b.cells n Done) x.number Done) ≡ Some me = ap holder (get_or-set_other b.cells n x.number Done Done other) ∙ cell in
    let undone : list_all is_done (set b.cells n Done) ≡ false =
    list_all_at is_done (set b.cells n Done) x.number Done (held_at (set b.cells n Done) x.number me there) (held_undone (get_or (set b.cells n Done) x.number Done) me there) in
    ap (λ (q : Build). owner_in (Some q) next x)
    (undone-filled upto (set b.cells n Done) undone ∙ ap (λ (u : ℕ). build_at u Piece (set b.cells n Done)) same ∙ ap (λ (k : Kind). build_at b.upto k (set b.cells n Done)) (sym at))
    ∙ moved-kept b next x n Done other ∙ out

-- a job of this kind was handed in
finish_kept : (k : Kind) (s t : State) (by : ℕ) (done : Outcome) (b : Build) → IsOneJob k b.cells → done.job.kind ≡ k → s.build ≡ Some b → owner_in (Some b) (newest s.history + 1) done.job ≡ Some by → GoesOn k done s t
    → (x : JobName) (me : ℕ) → (me ≡ by → ⊥) → owner_in (Some b) (newest s.history + 1) x ≡ Some me → owner t x ≡ Some me
finish_kept Plan s t by done b one kind there mine g x me other out =
    absurd (alone b done.job.number x.number by me one (cell-of b (newest s.history + 1) done.job by mine).1 (cell-of b (newest s.history + 1) x me out).1 other)
finish_kept Piece s t by done b one kind there mine g x me other out =
    let next : ℕ = newest s.history + 1 in
    let w = owned (Some b) (newest s.history + 1) done.job by mine in
    let is : w.b ≡ b = sym (same_some w.there) in
    let upto : done.job.upto ≡ b.upto = w.upto ∙ ap (λ (q : Build). q.upto) is in
    let at : b.phase ≡ Piece = sym (cell-of b (newest s.history + 1) done.job by mine).0 ∙ kind in
    let apart : x.number ≡ done.job.number → ⊥ = not-same b.cells done.job.number x.number by me (cell-of b (newest s.history + 1) done.job by mine).1 (cell-of b (newest s.history + 1) x me out).1 other in
    let cells : cells_in s.build ≡ b.cells = ap cells_in there in
    ap (λ (q : State). owner q x) g ∙ ap (λ (cs : List Cell). owner_in (Some (filled done.job.upto (set cs done.job.number Done))) (newest s.history + 1) x) cells
    ∙ piece_kept b (newest s.history + 1) done.job.upto x done.job.number me upto at apart out
finish_kept Assemble s t by done b one kind there mine g x me other out = absurd g

publish_kept : (k : Kind) (s t : State) (by entry snapshot : ℕ) (done : Outcome) (b : Build) → IsOneJob k b.cells → owner_in (Some b) (newest s.history + 1) done.job ≡ Some by → Publishes k by done s entry snapshot t
    → (x : JobName) (me : ℕ) → (me ≡ by → ⊥) → owner_in (Some b) (newest s.history + 1) x ≡ Some me → owner t x ≡ Some me
publish_kept Plan s t by entry snapshot done b one mine p x me other out = absurd p
publish_kept Piece s t by entry snapshot done b one mine p x me other out = absurd p
publish_kept Assemble s t by entry snapshot done b one mine p x me other out =
    absurd (alone b done.job.number x.number by me one (cell-of b (newest s.history + 1) done.job by mine).1 (cell-of b (newest s.history + 1) x me out).1 other)

-- the build of which somebody has a job
record Under (s : State) (job : JobName) (by : ℕ) : Type 0 where
  pub b : Build
  pub there : s.build ≡ Some b
  pub mine : owner_in (Some b) (newest s.history + 1) job ≡ Some by
  pub one : IsOneJob job.kind b.cells

under : (s : State) (job : JobName) (by : ℕ) → IsSound s → owner s job ≡ Some by → Under s job by
under s job by sound out =
    let w = owned s.build (newest s.history + 1) job by out in
    record {
      b = w.b;
      there = w.there;
      mine = ap (λ (o : Option Build). owner_in o (newest s.history + 1) job) (sym w.there) ∙ out;
      one = subst (λ (k : Kind). IsOneJob k w.b.cells) (sym w.kind) (some_of (λ (x : Build). IsOpen s.history s.callers x) s.build w.b w.there sound.build).one;
    }

finishes_kept : (s t : State) (by : ℕ) (done : Outcome) (p : Progress) → IsSound s → Finishes by done s (Ok p) t → KeepsOthers by s t
finishes_kept s t by done progress.Going sound f x me other out =
    let u = under s done.job by sound f.0 in
    finish_kept done.job.kind s t by done u.b u.one refl u.there u.mine f.1 x me other (ap (λ (o : Option Build). owner_in o (newest s.history + 1) x) (sym u.there) ∙ out)
finishes_kept s t by done (progress.Published entry snapshot) sound f x me other out =
    let u = under s done.job by sound f.0 in
    publish_kept done.job.kind s t by entry snapshot done u.b u.one u.mine f.1 x me other (ap (λ (o : Option Build). owner_in o (newest s.history + 1) x) (sym u.there) ∙ out)

back_kept : (s t : State) (by : ℕ) (job : JobName) → IsSound s → owner s job ≡ Some by → t ≡ with_build s (Some (freed job (cells_in s.build))) → KeepsOthers by s t
back_kept s t by job sound mine left x me other out =
    let u = under s job by sound mine in
    let w = owned (Some u.b) (newest s.history + 1) job by u.mine in
    let is : w.b ≡ u.b = sym (same_some w.there) in
    let here : owner_in (Some u.b) (newest s.history + 1) x ≡ Some me = ap (λ (o : Option Build). owner_in o (newest s.history + 1) x) (sym u.there) ∙ out in
    let apart : x.number ≡ job.number → ⊥ = not-same u.b.cells job.number x.number by me (cell-of u.b (newest s.history + 1) job by u.mine).1 (cell-of u.b (newest s.history + 1) x me here).1 other in
    let cells : cells_in s.build ≡ u.b.cells = ap cells_in u.there in
    let same : freed job (cells_in s.build) ≡ moved u.b job.number Free =
    ap (λ (cs : List Cell). freed job cs) cells ∙ ap (λ (n : ℕ). build_at n job.kind (set u.b.cells job.number Free)) (w.upto ∙ ap (λ (q : Build). q.upto) is)
    ∙ ap (λ (k : Kind). build_at u.b.upto k (set u.b.cells job.number Free)) (w.kind ∙ ap (λ (q : Build). q.phase) is) in
    ap (λ (q : State). owner q x) left ∙ ap (λ (q : Build). owner_in (Some q) (newest s.history + 1) x) same ∙ moved-kept u.b (newest s.history + 1) x job.number Free apart ∙ here

-- ---- one caller's job changes

-- the caller has this then, or nothing
pub holding-set : (s t : State) (held : List (Option Job)) (by : ℕ) (o : Option Job) → t.callers ≡ s.callers → IsPrefix s.history t.history → KeepsOthers by s t → IfSome o (λ job. IsHeld t by job) → IsHolding s held → by < s.callers → IsHolding t (set held by o)
holding-set s t held by o callers front kept new h lt =
    record {
      long = length-set held by o ∙ h.long ∙ sym callers;
      each = λ i job is. go i job is (i == by) refl;
    }
  where
    go : (i : ℕ) (job : Job) → get_or (set held by o) i None ≡ Some job → (b : Bool) → (i == by) ≡ b → IsHeld t i job
    go i job is true e =
        let same : i ≡ by = eqb-true i by e in
        let there : o ≡ Some job =
        sym (get_or-set_same held by o None (omega (arith, h.long, lt))) ∙ ap (λ (n : ℕ). get_or (set held by o) n None) (sym same) ∙ is in
        subst (λ (n : ℕ). IsHeld t n job) (sym same) (some_of (λ (x : Job). IsHeld t by x) o job there new)
    go i job is false e =
        let apart : i ≡ by → ⊥ = (λ same. eqb-false i by e same) in
        let k = h.each i job (sym (get_or-set_other held by i o None apart) ∙ is) in
        (kept (name job) i apart k.0, job-lasts name IsJob job s.history t.history front k.1)

-- ---- a job goes out

named-out : (s t : State) (by : ℕ) (b : Build) (job : Job) → GoesOut name IsJob by s b job t → GoesOut (λ n. n) (λ n b p. Unit {0}) by s b (name job) t
named-out s t by b job g = record { free = g.free; called = g.called; holds = record { within = g.holds.within; stands = tt }; left = g.left }

went-holding : (s t : State) (held : List (Option Job)) (by : ℕ) (job : Job) → GoesOut name IsJob by s (build_for s s.build) job t → by < s.callers → IsHolding s held → IsHolding t (set held by (Some job))
went-holding s t held by job g lt h =
    let same : t.history ≡ s.history = ap (λ (x : State). x.history) g.left in
    holding-set s t held by (Some job) (ap (λ (x : State). x.callers) g.left) (subst (λ (x : History). IsPrefix s.history x) (sym same) ([], append-nil s.history)) (went-kept s t by job g)
    (out-owned name IsJob by s (build_for s s.build) job t g, subst (λ (x : History). JobHolds name IsJob job x) (sym same) g.holds) h lt

pub pulled-holding : (s t : State) (held : List (Option Job)) (by goal : ℕ) (job : Job) → Pulls name IsJob by goal s (Ok (pulled.Job job)) t → by < s.callers → IsHolding s held → IsHolding t (set held by (Some job))
pulled-holding s t held by goal job p lt h = went-holding s t held by job p.1 lt h

pub pulled-name : (s t : State) (by goal : ℕ) (job : Job) → Pulls name IsJob by goal s (Ok (pulled.Job job)) t → Pulls (λ n. n) (λ n b p. Unit {0}) by goal s (Ok (pulled.Job (name job))) t
pulled-name s t by goal job p = (p.0, named-out s t by (build_for s s.build) job p.1)

taken_out : (s t : State) (by : ℕ) (job : Job) (o : Option Build) → IsSomeAnd o (λ b. GoesOut name IsJob by s b job t) → GoesOut name IsJob by s (build_for s o) job t
taken_out s t by job None g = absurd g
taken_out s t by job (Some b) g = g

pub taken-holding : (s t : State) (held : List (Option Job)) (by : ℕ) (job : Job) → Takes name IsJob by s (Ok (taken.Job job)) t → by < s.callers → IsHolding s held → IsHolding t (set held by (Some job))
taken-holding s t held by job p lt h = went-holding s t held by job (taken_out s t by job s.build p) lt h

taken_named : (s t : State) (by : ℕ) (job : Job) (o : Option Build) → IsSomeAnd o (λ b. GoesOut name IsJob by s b job t) → IsSomeAnd o (λ b. GoesOut (λ n. n) (λ n b p. Unit {0}) by s b (name job) t)
taken_named s t by job None g = absurd g
taken_named s t by job (Some b) g = named-out s t by b job g

pub taken-name : (s t : State) (by : ℕ) (job : Job) → Takes name IsJob by s (Ok (taken.Job job)) t → Takes (λ n. n) (λ n b p. Unit {0}) by s (Ok (taken.Job (name job))) t
taken-name s t by job p = taken_named s t by job s.build p

-- ---- a job is handed in, or back

finish_front : (k : Kind) (by : ℕ) (done : Outcome) (s t : State) → GoesOn k done s t → (t.callers ≡ s.callers) × IsPrefix s.history t.history
finish_front Plan by done s t g = (ap (λ (x : State). x.callers) g, subst (λ (x : State). IsPrefix s.history x.history) (sym g) ([], append-nil s.history))
finish_front Piece by done s t g = (ap (λ (x : State). x.callers) g, subst (λ (x : State). IsPrefix s.history x.history) (sym g) ([], append-nil s.history))
finish_front Assemble by done s t g = absurd g

publish_front : (k : Kind) (by : ℕ) (done : Outcome) (s t : State) (entry snapshot : ℕ) → Publishes k by done s entry snapshot t → (t.callers ≡ s.callers) × IsPrefix s.history t.history
publish_front Plan by done s t entry snapshot p = absurd p
publish_front Piece by done s t entry snapshot p = absurd p
publish_front Assemble by done s t entry snapshot p = (ap (λ (x : State). x.callers) p.2, subst (λ (x : State). IsPrefix s.history x.history) (sym p.2) (Publish by done.job.upto ∷ [], refl))

finishes_front : (by : ℕ) (done : Outcome) (s t : State) (p : Progress) → Finishes by done s (Ok p) t → (t.callers ≡ s.callers) × IsPrefix s.history t.history
finishes_front by done s t progress.Going f = finish_front done.job.kind by done s t f.1
finishes_front by done s t (progress.Published entry snapshot) f = publish_front done.job.kind by done s t entry snapshot f.1

pub finished-holding : (s t : State) (held : List (Option Job)) (by : ℕ) (done : Outcome) (p : Progress) → IsSound s → Finishes by done s (Ok p) t → by < s.callers → IsHolding s held → IsHolding t (set held by None)
finished-holding s t held by done p sound f lt h =
    let front = finishes_front by done s t p f in
    holding-set s t held by None front.0 front.1 (finishes_kept s t by done p sound f) tt h lt

pub back-holding : (s t : State) (held : List (Option Job)) (by : ℕ) (job : JobName) → IsSound s → owner s job ≡ Some by → t ≡ with_build s (Some (freed job (cells_in s.build))) → by < s.callers → IsHolding s held → IsHolding t (set held by None)
back-holding s t held by job sound mine left lt h =
    holding-set s t held by None (ap (λ (x : State). x.callers) left) (subst (λ (x : State). IsPrefix s.history x.history) (sym left) ([], append-nil s.history)) (back_kept s t by job sound mine left) tt h lt

-- and it is not refused
pub not-strange : (s t : State) (by : ℕ) (job : JobName) (e : Strange) → owner s job ≡ Some by → IsStrange by job s e t → ⊥
not-strange s t by job e out h = h.0 out

-- ---- as the code has them

-- the job of a caller, by its name
pub job-named : (held : List (Option Job)) (by : ℕ) → get_or (map (λ job. option_map name job) held) by None ≡ option_map name (get_or held by None)
job-named held by = get_or-map (λ (job : Option Job). option_map name job) held by None

at-any : {X : Type 0} (xs : List X) (i : ℕ) (d e : X) → i < length xs → get_or xs i d ≡ get_or xs i e
at-any [] i d e lt = absurd (omega arith)
at-any (x ∷ xs) zero d e lt = refl
at-any (x ∷ xs) (suc i) d e lt = at-any xs i d e (omega (arith, lt))

pub held-job : (held : List (Option Job)) (by : ℕ) (r : Option Job) (job : Job) → by < length held → r ≡ get_or held by r → r ≡ Some job → get_or held by None ≡ Some job
held-job held by r job lt at is = at-any held by None r lt ∙ sym at ∙ is

pub no-job : (seen held : List (Option Job)) (by : ℕ) (t : Bool) → seen ≡ held → t ≡ is_some (get_or seen by None) → t ≡ false → get_or held by None ≡ None
no-job seen held by t same e off = go (get_or held by None) (sym off ∙ e ∙ ap (λ (xs : List (Option Job)). is_some (get_or xs by None)) same)
  where
    go : (o : Option Job) → false ≡ is_some o → o ≡ None
    go None x = refl
    go (Some job) x = absurd cc

pub spends-by : (s t : State) (held : List (Option Job)) (by : ℕ) (job : Job) (n : JobName) (left : Option Job) → get_or held by None ≡ Some job → n ≡ name job → left ≡ None → Spends by (machine s held) n (machine t (set held by left))
spends-by s t held by job n left has is gone =
    record {
      before = job-named held by ∙ ap (λ (o : Option Job). option_map name o) has ∙ ap (λ (x : JobName). Some x) (sym is);
      after = ap (λ (o : Option Job). map (λ (job : Option Job). option_map name job) (set held by o)) gone ∙ map-set (λ (job : Option Job). option_map name job) held by None;
    }

pub gets-by : (s t : State) (held : List (Option Job)) (by : ℕ) (job : Job) → get_or held by None ≡ None → Gets by (machine s held) (name job) (machine t (set held by (Some job)))
gets-by s t held by job none =
    record {
      before = job-named held by ∙ ap (λ (o : Option Job). option_map name o) none;
      after = map-set (λ (job : Option Job). option_map name job) held by (Some job);
    }

-- a job that wasn't done is where it was
pub put-back : (held : List (Option Job)) (by : ℕ) (job same : Job) (left : Option Job) → get_or held by None ≡ Some job → same ≡ job → set (set held by left) by (Some same) ≡ held
put-back held by job same left has is =
    set-set held by left (Some same) ∙ ap (λ (j : Job). set held by (Some j)) is ∙ ap (λ (o : Option Job). set held by o) (sym has) ∙ set-get_or held by None

pub some-job : (h : History) (job : Job) → JobHolds name IsJob job h → IsSomeJob job
some-job h job holds = (snap h ((name job).build - 1), (take (name job).upto (imports h), holds.stands))

-- the same but for the note
pub noted-holding : (s t : State) (held : List (Option Job)) (kind : Noted) (by number : ℕ) (who : Option ℕ) → t ≡ noted s kind by number who → IsHolding s held → IsHolding t held
noted-holding s t held kind by number who e h = subst (λ (x : State). IsHolding x held) (sym e) (holding-stays s (noted s kind by number who) held refl refl refl ([], append-nil s.history) h)

pub enrolled : (s t : State) (held mid now : List (Option Job)) → mid ≡ held → now ≡ mid ++ None ∷ [] → t ≡ record s { callers = s.callers + 1 } → IsHolding s held → IsHolding t now
enrolled s t held mid now same pushed e h =
    holding-more s t held now (pushed ∙ ap (λ (xs : List (Option Job)). xs ++ None ∷ []) same) (ap (λ (x : State). x.build) e) (ap (λ (x : State). x.history) e) (ap (λ (x : State). x.callers) e) h

-- what callers of the code know
pub below : (s : State) (held : List (Option Job)) (by callers : ℕ) → IsHolding s held → callers ≡ s.callers → by < callers → (by < s.callers) × (by < length held)
below s held by callers h same lt = (omega (arith, same, lt), omega (arith, same, lt, h.long))
