-- Jobs that are out, and jobs that are free.
use Rattle.std.proofs.Common.{◌≡◌, ℕ, zero, suc, ◌<◌, ◌≤◌, Bool, true, false, ◌&&◌, cond, List, [], ◌∷◌, length, get_or, set, refl, ap, subst, ◌∙◌, arith}
use Rattle.std.specs.Prelude.{Option, Some, None, IfSome, All, ◌==◌}
use Rattle.std.specs.List.{list_all, list_any}
use Rattle.std.proofs.lemmas.List.{get_or-set_same, length-set}
use Rattle.std.proofs.lemmas.List.Elements.{All-nil, All-cons, All-weaker}
use Rattle.std.proofs.lemmas.List.Folds.{list_all_at}
use Rattle.std.proofs.lemmas.List.Quantifiers.{position-Some}
use Rattle.std.proofs.lemmas.Bool.{eqb-true}
use Rattle.book_model.specs.State.{Kind, Plan, Piece, Assemble, Cell, Free, OutTo, Done, Build, is_kind, is_free, is_out, is_done, holder, first_free}
use Rattle.book_model.specs.Jobs.{JobName, is_of, owner_in}
use Rattle.book_model.specs.Sound.{IsOneJob, IsHeldBelow}

-- ---- options

pub some_of : {A : Type 0} (P : A → Type 0) (o : Option A) (x : A) → o ≡ Some x → IfSome o P → P x
some_of {A = A} P o x e p = subst (λ (q : Option A). IfSome q P) e p

pub some_weaker : {A : Type 0} (P Q : A → Type 0) (o : Option A) → ((x : A) → P x → Q x) → IfSome o P → IfSome o Q
some_weaker P Q None f p = tt
some_weaker P Q (Some x) f p = f x p

-- ---- who has a job

same_kind : (k l : Kind) → is_kind k l ≡ true → k ≡ l
same_kind Plan Plan e = refl
same_kind Plan Piece e = absurd cc
same_kind Plan Assemble e = absurd cc
same_kind Piece Plan e = absurd cc
same_kind Piece Piece e = refl
same_kind Piece Assemble e = absurd cc
same_kind Assemble Plan e = absurd cc
same_kind Assemble Piece e = absurd cc
same_kind Assemble Assemble e = refl

both : (a b : Bool) → (a && b) ≡ true → (a ≡ true) × (b ≡ true)
both true b e = (refl, e)
both false b e = absurd cc

-- the job is out to the caller, in the build that is open
pub record Owned (o : Option Build) (next : ℕ) (job : JobName) (by : ℕ) : Type 0 where
  pub b : Build
  pub there : o ≡ Some b
  pub build : job.build ≡ next
  pub upto : job.upto ≡ b.upto
  pub kind : job.kind ≡ b.phase
  pub cell : holder (get_or b.cells job.number Done) ≡ Some by

owned_step : (b : Build) (next : ℕ) (job : JobName) (by : ℕ) (t : Bool) → is_of b next job ≡ t → cond t (holder (get_or b.cells job.number Done)) None ≡ Some by → Owned (Some b) next job by
owned_step b next job by true e h =
    let first = both (job.build == next) ((job.upto == b.upto) && is_kind job.kind b.phase) e in
    let second = both (job.upto == b.upto) (is_kind job.kind b.phase) first.1 in
    record { b = b; there = refl; build = eqb-true job.build next first.0; upto = eqb-true job.upto b.upto second.0; kind = same_kind job.kind b.phase second.1; cell = h }
owned_step b next job by false e h = absurd cc

pub owned : (o : Option Build) (next : ℕ) (job : JobName) (by : ℕ) → owner_in o next job ≡ Some by → Owned o next job by
owned None next job by e = absurd cc
owned (Some b) next job by e = owned_step b next job by (is_of b next job) refl e

pub held_at : (cells : List Cell) (n by : ℕ) → holder (get_or cells n Done) ≡ Some by → n < length cells
held_at [] zero by e = absurd cc
held_at [] (suc n) by e = absurd cc
held_at (c ∷ cells) zero by e = omega arith
held_at (c ∷ cells) (suc n) by e = let k : n < length cells = held_at cells n by e in omega (arith, k)

-- ---- cells that change

pub free_at : (cells : List Cell) (n : ℕ) → first_free cells ≡ Some n → n < length cells
free_at cells n e = (position-Some is_free cells n Free e).0

pub undone-set : (cells : List Cell) (n : ℕ) (c : Cell) → n < length cells → is_done c ≡ false → list_all is_done (set cells n c) ≡ false
undone-set cells n c lt e =
    let long : length (set cells n c) ≡ length cells = length-set cells n c in
    list_all_at is_done (set cells n c) n Free (omega (arith, lt, long)) (ap is_done (get_or-set_same cells n c Free lt) ∙ e)

pub one-set : (k : Kind) (cells : List Cell) (n : ℕ) (c : Cell) → IsOneJob k cells → IsOneJob k (set cells n c)
one-set Plan cells n c o = length-set cells n c ∙ o
one-set Piece cells n c o = tt
one-set Assemble cells n c o = length-set cells n c ∙ o

held_more : (n m : ℕ) → n ≤ m → (c : Cell) → IsHeldBelow n c → IsHeldBelow m c
held_more n m le Free h = tt
held_more n m le (OutTo by) h = omega (arith, h, le)
held_more n m le Done h = tt

pub all_held-more : (n m : ℕ) (cells : List Cell) → n ≤ m → All (IsHeldBelow n) cells → All (IsHeldBelow m) cells
all_held-more n m cells le h = All-weaker (IsHeldBelow n) (IsHeldBelow m) (held_more n m le) cells h

pub one_free : (n : ℕ) → All (IsHeldBelow n) (Free ∷ [])
one_free n = All-cons (IsHeldBelow n) Free [] tt (All-nil (IsHeldBelow n))

pub none_out : (n : ℕ) (cells : List Cell) → list_any is_out cells ≡ false → All (IsHeldBelow n) cells
none_out n [] e = All-nil (IsHeldBelow n)
none_out n (Free ∷ cells) e = All-cons (IsHeldBelow n) Free cells tt (none_out n cells e)
none_out n (OutTo by ∷ cells) e = absurd cc
none_out n (Done ∷ cells) e = All-cons (IsHeldBelow n) Done cells tt (none_out n cells e)
