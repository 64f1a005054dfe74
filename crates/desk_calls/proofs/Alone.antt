-- What a call finds and leaves where its caller is alone.
use Rattle.std.proofs.Common.{◌≡◌, ℕ, zero, suc, Bool, true, false, cond, List, [], ◌∷◌, ◌++◌, set, refl, sym, ap, subst, ◌∙◌}
use Rattle.std.specs.Prelude.{Option, Some, None, IfSome, is_some}
use Rattle.std.specs.List.{list_all, list_any}
use Rattle.std.proofs.lemmas.List.{set-set}
use Rattle.turn_lock.specs.History.{GrownBy}
use Rattle.history.specs.declared.past.Past.TheVariants.{Publish}
use Rattle.history.specs.Entries.{History, caller}
use Rattle.book_model.specs.State.{Kind, Plan, Piece, Assemble, Cell, Free, OutTo, Done, Build, State, is_out, is_done, assembling, with_pieces, filled, cells_in}
use Rattle.book_model.specs.Sound.{Keeps}
use Rattle.book_model.specs.Desk.{Caller, IsEvent, alone_after}
use Rattle.book_model.proofs.Owned.{some_of}
use Rattle.session_model.specs.Alone.{IsAlone, HasNoJob, StaysApart}
use Rattle.session_model.proofs.Apart.{if-grown}
use Rattle.desk_calls.specs.Alone.{OnlyOwn, build_over, BuildsOn}
use Rattle.desk_calls.specs.Calls.{Still}

-- ---- options

pub if-some : {A : Type 0} (P : A → Type 0) (o : Option A) → ((x : A) → o ≡ Some x → P x) → IfSome o P
if-some P None f = tt
if-some P (Some x) f = f x refl

if-none : {A : Type 0} (P : A → Type 0) (o : Option A) → is_some o ≡ false → IfSome o P
if-none P None e = tt
if-none P (Some x) e = absurd cc

stays_some : (a : Option (Option Build)) (b : Option Build) → is_some (alone_after a b) ≡ is_some a
stays_some None b = refl
stays_some (Some x) b = refl

-- ---- any call

pub finds : (does : State → State → Type 0) (old new : Caller) (build : Option Build) → old.alone ≡ Some build → (v : IsEvent does old new) → (v.found.build ≡ build) × (v.found.history ≡ old.front)
finds does old new build e v = some_of (λ (b : Option Build). (v.found.build ≡ b) × (v.found.history ≡ old.front)) old.alone build e v.untouched

pub leaves : (does : State → State → Type 0) (old new : Caller) (build : Option Build) → old.alone ≡ Some build → (v : IsEvent does old new) → new.alone ≡ Some v.left.build
leaves does old new build e v = v.alone ∙ ap (λ (a : Option (Option Build)). alone_after a v.left.build) e

pub only-own : (does : State → State → Type 0) (old new : Caller) → (v : IsEvent does old new) → Keeps old.me v.found v.left → OnlyOwn old new
only-own does old new v k = record {
  still = ap (λ (a : Option (Option Build)). is_some a) v.alone ∙ stays_some old.alone v.left.build;
  grown = if-some (λ (b : Option Build). GrownBy caller old.me old.front new.front) old.alone (λ build e.
      subst (λ (h : History). GrownBy caller old.me h new.front) (finds does old new build e v).1
      (subst (λ (h : History). GrownBy caller old.me v.found.history h) (sym v.front) k.grown));
}

same-step : (does : State → State → Type 0) (old new : Caller) (a : Option (Option Build)) → old.alone ≡ a → (v : IsEvent does old new) → v.left.build ≡ v.found.build → new.alone ≡ a
same-step does old new None e v b = v.alone ∙ ap (λ (x : Option (Option Build)). alone_after x v.left.build) e
same-step does old new (Some build) e v b = leaves does old new build e v ∙ ap (λ (x : Option Build). Some x) (b ∙ (finds does old new build e v).0)

pub same-build : (does : State → State → Type 0) (old new : Caller) → (v : IsEvent does old new) → v.left.build ≡ v.found.build → new.alone ≡ old.alone
same-build does old new v b = same-step does old new old.alone refl v b

pub no-job : (new : Caller) (build : Option Build) → new.alone ≡ Some build → list_any is_out (cells_in build) ≡ false → HasNoJob new
no-job new build e free = subst (λ (a : Option (Option Build)). IfSome a (λ b. list_any is_out (cells_in b) ≡ false)) (sym e) free

-- the history is as it was
pub same-history : (does : State → State → Type 0) (old new : Caller) → (v : IsEvent does old new) → v.left.history ≡ v.found.history → IfSome old.alone (λ b. new.front ≡ old.front)
same-history does old new v h = if-some (λ (b : Option Build). new.front ≡ old.front) old.alone (λ build e. v.front ∙ h ∙ (finds does old new build e v).1)

pub same-front : (old new : Caller) → Still old new → IsAlone old → new.front ≡ old.front
same-front old new s alone = some_of (λ (b : Option Build). new.front ≡ old.front) old.alone None alone (s.front (no-job old None alone refl))

-- ---- apart from others

no-job-step : (old new : Caller) (a : Option (Option Build)) → is_some new.alone ≡ is_some a → ((build : Option Build) → a ≡ Some build → list_any is_out (cells_in build) ≡ false → HasNoJob new)
    → IfSome a (λ b. list_any is_out (cells_in b) ≡ false) → HasNoJob new
no-job-step old new None s f free = if-none (λ (b : Option Build). list_any is_out (cells_in b) ≡ false) new.alone s
no-job-step old new (Some build) s f free = f build refl free

pub apart : (old new : Caller) → OnlyOwn old new → ((build : Option Build) → old.alone ≡ Some build → list_any is_out (cells_in build) ≡ false → HasNoJob new) → StaysApart old new
apart old new o f = record { still = o.still; grown = o.grown; no_job = no-job-step old new old.alone o.still f }

pub apart-same-build : (old new : Caller) → OnlyOwn old new → new.alone ≡ old.alone → StaysApart old new
apart-same-build old new o same = apart old new o (λ build e free. no-job new build (same ∙ e) free)

pub only-own-then : (old mid new : Caller) → mid.me ≡ old.me → OnlyOwn old mid → OnlyOwn mid new → OnlyOwn old new
only-own-then old mid new me p q = record {
  still = q.still ∙ p.still;
  grown = if-grown old.alone mid.alone old.me old.front mid.front new.front p.still p.grown (subst (λ (n : ℕ). IfSome mid.alone (λ b. GrownBy caller n mid.front new.front)) me q.grown);
}

-- ---- cells

any_tail : (x : Cell) (cells : List Cell) → list_any is_out (x ∷ cells) ≡ false → list_any is_out cells ≡ false
any_tail Free cells e = e
any_tail (OutTo by) cells e = absurd cc
any_tail Done cells e = e

any_head : (x : Cell) (cells : List Cell) → list_any is_out (x ∷ cells) ≡ false → is_out x ≡ false
any_head Free cells e = refl
any_head (OutTo by) cells e = absurd cc
any_head Done cells e = refl

any_cons : (x : Cell) (cells : List Cell) → is_out x ≡ false → list_any is_out cells ≡ false → list_any is_out (x ∷ cells) ≡ false
any_cons Free cells e f = f
any_cons (OutTo by) cells e f = absurd cc
any_cons Done cells e f = f

pub none-out-set : (cells : List Cell) (n : ℕ) (c : Cell) → list_any is_out cells ≡ false → is_out c ≡ false → list_any is_out (set cells n c) ≡ false
none-out-set [] n c e f = e
none-out-set (x ∷ cells) zero c e f = any_cons c cells f (any_tail x cells e)
none-out-set (x ∷ cells) (suc n) c e f = any_cons x (set cells n c) (any_head x cells e) (none-out-set cells n c (any_tail x cells e) f)

-- a job that was out and is so no more
pub none-out-again : (cells : List Cell) (n : ℕ) (a c : Cell) → list_any is_out cells ≡ false → is_out c ≡ false → list_any is_out (set (set cells n a) n c) ≡ false
none-out-again cells n a c e f = ap (λ (x : List Cell). list_any is_out x) (set-set cells n a c) ∙ none-out-set cells n c e f

filled_step : (t : Bool) (upto : ℕ) (cells : List Cell) → list_any is_out cells ≡ false → list_any is_out (cond t (assembling upto) (with_pieces upto cells)).cells ≡ false
filled_step true upto cells e = refl
filled_step false upto cells e = e

pub none-out-filled : (upto : ℕ) (cells : List Cell) → list_any is_out cells ≡ false → list_any is_out (filled upto cells).cells ≡ false
none-out-filled upto cells e = filled_step (list_all is_done cells) upto cells e

pub none-out-over : (h : History) (build : Option Build) → list_any is_out (cells_in build) ≡ false → list_any is_out (build_over h build).cells ≡ false
none-out-over h None e = refl
none-out-over h (Some b) e = e

-- ---- builds

pub built-free : (k : Kind) (b : Build) (n : ℕ) (cells : List Cell) (old new : Caller) → list_any is_out b.cells ≡ false → list_any is_out cells ≡ false → BuildsOn k b n cells old new → HasNoJob new
built-free Plan b n cells old new bare free p = no-job new (Some (filled b.upto cells)) p.0 (none-out-filled b.upto cells free)
built-free Piece b n cells old new bare free p = no-job new (Some (filled b.upto (set b.cells n Done))) p.0 (none-out-filled b.upto (set b.cells n Done) (none-out-set b.cells n Done bare refl))
built-free Assemble b n cells old new bare free p = no-job new None p.0 refl

pub builds-behind : (k : Kind) (b : Build) (n : ℕ) (cells : List Cell) (old mid new : Caller) → mid.front ≡ old.front → mid.me ≡ old.me → BuildsOn k b n cells mid new → BuildsOn k b n cells old new
builds-behind Plan b n cells old mid new f m p = (p.0, p.1 ∙ f)
builds-behind Piece b n cells old mid new f m p = (p.0, p.1 ∙ f)
builds-behind Assemble b n cells old mid new f m p = (p.0, p.1 ∙ ap (λ (h : History). h ++ Publish mid.me b.upto ∷ []) f ∙ ap (λ (by : ℕ). old.front ++ Publish by b.upto ∷ []) m)
