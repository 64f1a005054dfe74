-- Jobs that are out, and names that are spent.
use Rattle.std.proofs.Common.{◌≡◌, ℕ, ◌+◌, ◌<◌, ◌≤◌, Bool, true, false, ◌&&◌, cond, List, [], ◌∷◌, length, get_or, set, eq-eqb, refl, sym, ap, ◌∙◌, arith}
use Rattle.std.specs.Prelude.{Option, Some, None, Ok, IfSome, ◌==◌}
use Rattle.std.specs.List.{list_all, list_any, position_from}
use Rattle.std.proofs.lemmas.Iterator.Adapters.{position_from-zero}
use Rattle.std.proofs.lemmas.List.{get_or-set_same}
use Rattle.std.proofs.lemmas.List.Sums.{sum_by-cons}
use Rattle.std.proofs.lemmas.Bool.{eqb-true}
use Rattle.history.specs.declared.past.Past.{Past}
use Rattle.history.specs.Entries.{newest}
use Rattle.book_model.specs.declared.answers.Pulled.TheVariants as pulled
use Rattle.book_model.specs.State.{Kind, Plan, Piece, Assemble, Cell, Free, OutTo, Done, Build, State, is_kind, is_free, is_out, is_done, holder, first_free, out_count, moved, cells_in, with_build}
use Rattle.book_model.specs.Jobs.{JobName, owner_in, owner}
use Rattle.book_model.specs.Steps.{GoesOut, build_for, Pulls}
use Rattle.book_model.specs.Sound.{IsOpen, IsSound}
use Rattle.book_model.proofs.Owned.{free_at}

-- ---- some job is out where none is free

out_step : (i : ℕ) (cells : List Cell) → position_from is_free i cells ≡ None → list_all is_done cells ≡ false → 1 ≤ out_count cells
out_step i [] none undone = absurd cc
out_step i (Free ∷ cells) none undone = absurd cc
out_step i (OutTo by ∷ cells) none undone = let c : out_count (OutTo by ∷ cells) ≡ 1 + out_count cells = sum_by-cons (λ (x : Cell). cond (is_out x) 1 0) (OutTo by) cells in omega (arith, c)
out_step i (Done ∷ cells) none undone =
    let c : out_count (Done ∷ cells) ≡ 0 + out_count cells = sum_by-cons (λ (x : Cell). cond (is_out x) 1 0) Done cells in
    let k : 1 ≤ out_count cells = out_step (i + 1) cells none undone in
    omega (arith, c, k)

pub some_out : (cells : List Cell) → first_free cells ≡ None → list_all is_done cells ≡ false → 1 ≤ out_count cells
some_out cells none undone = out_step 0 cells (sym (position_from-zero is_free cells) ∙ none) undone

-- none is out of cells among which none is
none_counted : (cells : List Cell) → list_any is_out cells ≡ false → out_count cells ≡ 0
none_counted [] e = refl
none_counted (Free ∷ cells) e = sum_by-cons (λ (x : Cell). cond (is_out x) 1 0) Free cells ∙ (let k : out_count cells ≡ 0 = none_counted cells e in omega (arith, k))
none_counted (OutTo by ∷ cells) e = absurd cc
none_counted (Done ∷ cells) e = sum_by-cons (λ (x : Cell). cond (is_out x) 1 0) Done cells ∙ (let k : out_count cells ≡ 0 = none_counted cells e in omega (arith, k))

outs_of : (s : State) (build : Option Build) → IfSome build (IsOpen s.history s.callers) → first_free (build_for s build).cells ≡ None → 1 ≤ out_count (build_for s build).cells
outs_of s None o none = absurd cc
outs_of s (Some b) o none = some_out b.cells none o.undone

pub pulls-out : {J : Type 0} (name : J → JobName) (is_job : J → List Past → List Past → Type 0) (by goal out : ℕ) (old new : State) → IsSound old → Pulls name is_job by goal old (Ok (pulled.Out out)) new → 1 ≤ out
pulls-out name is_job by goal out old new s st = let k : 1 ≤ out_count (build_for old old.build).cells = outs_of old old.build s.build st.1 in omega (arith, st.2, k)

none_held : (s : State) (build : Option Build) → list_any is_out (cells_in build) ≡ false → list_any is_out (build_for s build).cells ≡ false
none_held s None e = refl
none_held s (Some b) e = e

-- a caller on whose book nobody else acts is not told that jobs are out while it has none
pub never-out : {J : Type 0} (name : J → JobName) (is_job : J → List Past → List Past → Type 0) (by goal out : ℕ) (old new : State) → IsSound old → list_any is_out (cells_in old.build) ≡ false → Pulls name is_job by goal old (Ok (pulled.Out out)) new → ⊥
never-out name is_job by goal out old new s free st =
    let k : 1 ≤ out_count (build_for old old.build).cells = outs_of old old.build s.build st.1 in
    let z : out_count (build_for old old.build).cells ≡ 0 = none_counted (build_for old old.build).cells (none_held old old.build free) in
    omega (arith, k, z)

-- ---- who has a job

same : (k : Kind) → is_kind k k ≡ true
same Plan = refl
same Piece = refl
same Assemble = refl

all_three : (n m : ℕ) (k : Kind) → ((n == n) && ((m == m) && is_kind k k)) ≡ true
all_three n m k = ap (λ (b : Bool). b && ((m == m) && is_kind k k)) (eq-eqb n n refl) ∙ ap (λ (b : Bool). b && is_kind k k) (eq-eqb m m refl) ∙ same k

-- a job that went out is out to the caller
pub out-owned : {J : Type 0} (name : J → JobName) (is_job : J → List Past → List Past → Type 0) (by : ℕ) (old : State) (b : Build) (job : J) (new : State) → GoesOut name is_job by old b job new → owner new (name job) ≡ Some by
out-owned name is_job by old b job new g =
    let n : ℕ = (name job).number in
    let lt : n < length b.cells = free_at b.cells n g.free in
    ap (λ (s : State). owner s (name job)) g.left
    ∙ ap (λ (j : JobName). owner (with_build old (Some (moved b n (OutTo by)))) j) g.called
    ∙ ap (λ (t : Bool). cond t (holder (get_or (set b.cells n (OutTo by)) n Done)) None) (all_three (newest old.history + 1) b.upto b.phase)
    ∙ ap holder (get_or-set_same b.cells n (OutTo by) Done lt)

other_build : (b : Build) (next : ℕ) (job : JobName) → job.build < next → (t : Bool) → (job.build == next) ≡ t → cond (t && ((job.upto == b.upto) && is_kind job.kind b.phase)) (holder (get_or b.cells job.number Done)) None ≡ None
other_build b next job lt true e = let same : job.build ≡ next = eqb-true job.build next e in absurd (omega (arith, same, lt))
other_build b next job lt false e = refl

spent_step : (o : Option Build) (next : ℕ) (job : JobName) → job.build < next → owner_in o next job ≡ None
spent_step None next job lt = refl
spent_step (Some b) next job lt = other_build b next job lt (job.build == next) refl

-- nobody has a job of a build that was published
pub spent : (s : State) (job : JobName) → job.build ≤ newest s.history → owner s job ≡ None
spent s job le = spent_step s.build (newest s.history + 1) job (omega (arith, le))
