-- How far a publication of a caller alone is.
use Rattle.std.proofs.Common.{◌≡◌, ◌⊎◌, inl, inr, ℕ, zero, suc, ◌+◌, ◌<◌, ◌≤◌, Bool, true, false, cond, nat_lt, List, [], ◌∷◌, ◌++◌, length, get_or, set, refl, sym, ap, subst, ◌∙◌, arith}
use Rattle.std.specs.Prelude.{Option, Some, None}
use Rattle.std.specs.List.{list_all, list_any}
use Rattle.std.proofs.lemmas.Bool.Decides.{nat_tests}
use Rattle.std.proofs.lemmas.List.Quantifiers.{position-Some}
use Rattle.settings.specs.declared.TheConstants.{MAX_WEIGHT}
use Rattle.history.specs.declared.past.Past.TheVariants.{Publish}
use Rattle.history.specs.Entries.{History, imports, weight}
use Rattle.history.specs.Legality.{Marks, marks, start}
use Rattle.history.proofs.Entries.{marks_from-append}
use Rattle.book_model.specs.State.{Cell, Free, OutTo, Done, Build, is_free, is_out, is_done, first_free, cells_in, opened, assembling, with_pieces, filled, published}
use Rattle.book_model.specs.Desk.{Caller}
use Rattle.book_model.proofs.Owned.{some_of}
use Rattle.session_model.specs.Alone.{IsAlone, with_all}
use Rattle.desk_calls.specs.Alone.{Stage, Begun, Planned, Over, ArePlanned, DoesFirst, undone, most_alone, MayBeAt, build_at, front_at, IsNeededAt, IsAt, IsAfter}
use Rattle.desk_calls.specs.Calls.{Still}
use Rattle.desk_calls.specs.Publishing.{Worked}
use Rattle.desk_calls.proofs.Alone.{no-job, none-out-set, none-out-filled}
use Rattle.desk_calls.proofs.Pulling.{published-last}

-- ---- turns that are left

undone-least : (cells : List Cell) → undone cells ≤ length cells
undone-least [] = omega arith
undone-least (Free ∷ cells) = let e = undone-least cells in omega (arith, e)
undone-least (OutTo by ∷ cells) = let e = undone-least cells in omega (arith, e)
undone-least (Done ∷ cells) = let e = undone-least cells in omega (arith, e)

undone-set : (cells : List Cell) (n : ℕ) → n < length cells → is_free (get_or cells n Free) ≡ true → undone (set cells n Done) + 1 ≡ undone cells
undone-set [] n lt e = absurd (omega (arith, lt))
undone-set (Free ∷ cells) zero lt e = refl
undone-set (OutTo by ∷ cells) zero lt e = absurd cc
undone-set (Done ∷ cells) zero lt e = absurd cc
undone-set (Free ∷ cells) (suc n) lt e = ap (λ (k : ℕ). k + 1) (undone-set cells n (omega (arith, lt)) e)
undone-set (OutTo by ∷ cells) (suc n) lt e = ap (λ (k : ℕ). k + 1) (undone-set cells n (omega (arith, lt)) e)
undone-set (Done ∷ cells) (suc n) lt e = undone-set cells n (omega (arith, lt)) e

-- the first piece that was free is done
undone-first : (cells : List Cell) (n : ℕ) → first_free cells ≡ Some n → undone (set cells n Done) + 1 ≡ undone cells
undone-first cells n e = let f = position-Some is_free cells n Free e in undone-set cells n f.0 f.1

few-planned : (cells : List Cell) (h : History) → weight h ≤ MAX_WEIGHT → ArePlanned cells h → undone cells ≤ 67108864
few-planned cells h light p = let e = undone-least cells in omega (arith, e, light, p.few)

pub few-turns : (k : Stage) (took : ℕ) → MayBeAt k took → took ≤ most_alone
few-turns Begun took is = omega (arith, is)
few-turns (Planned cells) took is = omega (arith, is.1)
few-turns Over took is = is

pub free-at : (k : Stage) (h : History) (took : ℕ) → MayBeAt k took → list_any is_out (cells_in (build_at k h)) ≡ false
free-at Begun h took is = refl
free-at (Planned cells) h took is = none-out-filled (length (imports h)) cells is.0
free-at Over h took is = refl

pub same-at : (k : Stage) (took me : ℕ) (h : History) (mid new : Caller) → MayBeAt k took → IsAt k me h mid → Still mid new → new.front ≡ mid.front
same-at k took me h mid new is a s = some_of (λ (b : Option Build). new.front ≡ mid.front) mid.alone (build_at k h) a.build (s.front (no-job mid (build_at k h) a.build (free-at k h took is)))

-- what is published last
last-over : (me upto : ℕ) (h : History) → (marks (h ++ Publish me upto ∷ [])).last ≡ upto
last-over me upto h = ap (λ (k : Marks). k.last) (marks_from-append start h (Publish me upto ∷ []))

needed-of : (h now : History) (goal : ℕ) → now ≡ h → (marks now).last < goal → goal ≡ length (imports h) → published h < length (imports h)
needed-of h now goal e low all =
    let last : (marks now).last ≡ published h = ap (λ (x : History). (marks x).last) e ∙ published-last h in
    omega (arith, low, all, last)

-- the plan comes first
next-begun : (me : ℕ) (h : History) (mid new : Caller) (goal took : ℕ) → goal ≡ length (imports h) → weight h ≤ MAX_WEIGHT → Worked mid goal new → took ≡ 0 → IsAt Begun me h mid → IsAfter (took + 1) me h new
next-begun me h mid new goal took all light w is a =
    let d : DoesFirst (opened (length (imports mid.front))) mid new = w.builds None a.build refl in
    let few = few-planned d.cells h light (subst (λ (x : History). ArePlanned d.cells x) a.front d.planned) in
    record {
      light = light;
      stage = Planned d.cells;
      may = (d.planned.free, omega (arith, is, few));
      there = record {
        build = d.builds.0 ∙ ap (λ (x : History). Some (Some (filled (length (imports x)) d.cells))) a.front;
        front = d.builds.1 ∙ a.front;
        mine = w.goes.me ∙ a.mine;
        needed = needed-of h mid.front goal a.front w.low all;
      };
    }

-- a piece, or the assembly where all pieces are done
next-planned : (me : ℕ) (h : History) (mid new : Caller) (goal took : ℕ) (cells : List Cell) (t : Bool) → weight h ≤ MAX_WEIGHT → Worked mid goal new → MayBeAt (Planned cells) took → IsAt (Planned cells) me h mid
    → mid.alone ≡ Some (Some (cond t (assembling (length (imports h))) (with_pieces (length (imports h)) cells))) → IsAfter (took + 1) me h new
next-planned me h mid new goal took cells true light w is a there =
    let upto : ℕ = length (imports h) in
    let d : DoesFirst (assembling upto) mid new = w.builds (Some (assembling upto)) there refl in
    record {
      light = light;
      stage = Over;
      may = omega (arith, is.1);
      there = record {
        build = d.builds.0;
        front = d.builds.1 ∙ ap (λ (x : History). x ++ Publish mid.me upto ∷ []) a.front ∙ ap (λ (n : ℕ). h ++ Publish n upto ∷ []) a.mine;
        mine = w.goes.me ∙ a.mine;
        needed = a.needed;
      };
    }
next-planned me h mid new goal took cells false light w is a there =
    let upto : ℕ = length (imports h) in
    let d : DoesFirst (with_pieces upto cells) mid new = w.builds (Some (with_pieces upto cells)) there is.0 in
    let less = undone-first cells d.number d.first in
    record {
      light = light;
      stage = Planned (set cells d.number Done);
      may = (none-out-set cells d.number Done is.0 refl, omega (arith, is.1, less));
      there = record {
        build = d.builds.0;
        front = d.builds.1 ∙ a.front;
        mine = w.goes.me ∙ a.mine;
        needed = a.needed;
      };
    }

next-at : (k : Stage) (me : ℕ) (h : History) (mid new : Caller) (goal took : ℕ) → goal ≡ length (imports h) → weight h ≤ MAX_WEIGHT → Worked mid goal new → MayBeAt k took → IsAt k me h mid → IsAfter (took + 1) me h new
next-at Begun me h mid new goal took all light w is a = next-begun me h mid new goal took all light w is a
next-at (Planned cells) me h mid new goal took all light w is a = next-planned me h mid new goal took cells (list_all is_done cells) light w is a a.build
next-at Over me h mid new goal took all light w is a =
    let last : (marks mid.front).last ≡ length (imports h) = ap (λ (x : History). (marks x).last) a.front ∙ last-over me (length (imports h)) h in
    absurd (omega (arith, w.low, all, last))

pub next-stage : (me : ℕ) (h : History) (mid new : Caller) (goal took : ℕ) → goal ≡ length (imports h) → Worked mid goal new → IsAfter took me h mid → IsAfter (took + 1) me h new
next-stage me h mid new goal took all w k = next-at k.stage me h mid new goal took all k.light w k.may k.there

-- ---- what it ends with

-- a publication is needed
with-one : (me : ℕ) (h : History) → published h < length (imports h) → with_all me h ≡ h ++ Publish me (length (imports h)) ∷ []
with-one me h lt = let e : nat_lt (published h) (length (imports h)) ≡ true = grind (arith, nat_tests) in ap (λ (t : Bool). cond t (h ++ Publish me (length (imports h)) ∷ []) h) e

with-none : (me : ℕ) (h : History) → length (imports h) ≤ published h → with_all me h ≡ h
with-none me h le = let e : nat_lt (published h) (length (imports h)) ≡ false = grind (arith, nat_tests) in ap (λ (t : Bool). cond t (h ++ Publish me (length (imports h)) ∷ []) h) e

pub one-or-none : (k : Stage) (me : ℕ) (h : History) (c : Caller) → IsNeededAt k h → c.front ≡ front_at k me h → (c.front ≡ h) ⊎ (c.front ≡ with_all me h)
one-or-none Begun me h c needed e = inl e
one-or-none (Planned cells) me h c needed e = inl e
one-or-none Over me h c needed e = inr (e ∙ sym (with-one me h needed))

pub all-published : (k : Stage) (me : ℕ) (h : History) (mid new : Caller) → length (imports h) ≤ published new.front → IsAt k me h mid → (IsAlone mid → IsAlone new) → new.front ≡ front_at k me h → IsAlone new × (new.front ≡ with_all me h)
all-published Begun me h mid new enough a f e =
    let same : published new.front ≡ published h = ap published e in
    (f a.build, e ∙ sym (with-none me h (omega (arith, enough, same))))
all-published (Planned cells) me h mid new enough a f e = let same : published new.front ≡ published h = ap published e in absurd (omega (arith, enough, a.needed, same))
all-published Over me h mid new enough a f e = (f a.build, e ∙ sym (with-one me h a.needed))
