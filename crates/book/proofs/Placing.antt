-- Where pieces are, and what is counted of them.
use Rattle.std.proofs.Common.{◌≡◌, ℕ, zero, suc, ◌+◌, ◌-◌, ◌<◌, ◌≤◌, Bool, true, false, ◌&&◌, cond, eqb, List, [], ◌∷◌, length, map, take, drop, get_or, set, Global, refl, sym, ap, subst, ◌∙◌, arith}
use Rattle.std.specs.Prelude.{Option, Some, None, IfSome, MatchOption, option_map, slice_get, count_by}
use Rattle.std.specs.List.{AllZip, list_all, list_any, position_or_len}
use Rattle.std.specs.Arc.{arc_value}
use Rattle.std.specs.declared.sync.Arc.{Arc}
use Rattle.std.proofs.Math.ListN.{get_or-map}
use Rattle.std.proofs.lemmas.Bool.{lt-ltb, le-ltb, ne_eqb}
use Rattle.std.proofs.lemmas.List.{length-map, map-set, take-map}
use Rattle.std.proofs.lemmas.List.Sums.{count_by-le-length, count_by_more_yes, count_by_more_no, sum_by-set, sum_by-cons}
use Rattle.std.proofs.lemmas.Slice.Zip.{AllZip-long}
use Rattle.history.specs.declared.past.Past.{Past}
use Rattle.history.specs.Pieces.{GitRange, git_ranges_in}
use Rattle.impact_set.specs.Standing.{Known}
use Rattle.piece_work.specs.Sets.{IsSetOf}
use Rattle.impact_job.specs.declared.tables.Plan as plans
use Rattle.impact_job.specs.declared.tables.Filled.{Filled}
use Rattle.impact_job.specs.declared.tables.Todo.{Todo}
use Rattle.impact_job.specs.declared.tables.Todo.TheVariants as todo
use Rattle.impact_job.specs.Tables.{IsPlanOf, IsTodoOf, IsMadeFor, HasSet, IsFilledOf}
use Rattle.book_model.specs.State.{Cell, Free, OutTo, Done, is_free, is_out, is_done, holder, first_free, out_count}
use Rattle.book_model.proofs.Owned.{held_at}
use Rattle.snapshot.specs.declared.job.Place.{Place}
use Rattle.snapshot.specs.declared.job.Place.TheVariants as places
use Rattle.snapshot.specs.Jobs.{cell_of, planned_place}
use Rattle.book.specs.Pieces.{Placed, cells_of, with_place, IsOutTo, set_at, is_undone, AreCounted, IsMadeOf, MayBeAt, ArePiecesOf, ArePiecesDone}

-- ---- the first that is free

pub free-within : (cells : List Cell) → position_or_len is_free cells ≤ length cells
free-within [] = omega arith
free-within (Free ∷ cells) = omega arith
free-within (OutTo by ∷ cells) = let k : position_or_len is_free cells ≤ length cells = free-within cells in omega (arith, k)
free-within (Done ∷ cells) = let k : position_or_len is_free cells ≤ length cells = free-within cells in omega (arith, k)

-- one that is not free more
pub free-later : (cells : List Cell) (i : ℕ) (d : Cell) → i ≤ position_or_len is_free cells → i < length cells → is_free (get_or cells i d) ≡ false → i + 1 ≤ position_or_len is_free cells
free-later [] i d le lt e = absurd (omega arith)
free-later (Free ∷ cells) zero d le lt e = absurd cc
free-later (OutTo by ∷ cells) zero d le lt e = omega arith
free-later (Done ∷ cells) zero d le lt e = omega arith
free-later (Free ∷ cells) (suc i) d le lt e = absurd (omega (arith, le))
free-later (OutTo by ∷ cells) (suc i) d le lt e = let k : i + 1 ≤ position_or_len is_free cells = free-later cells i d (omega (arith, le)) (omega (arith, lt)) e in omega (arith, k)
free-later (Done ∷ cells) (suc i) d le lt e = let k : i + 1 ≤ position_or_len is_free cells = free-later cells i d (omega (arith, le)) (omega (arith, lt)) e in omega (arith, k)

pub free-here : (cells : List Cell) (i : ℕ) (d : Cell) → i ≤ position_or_len is_free cells → i < length cells → is_free (get_or cells i d) ≡ true → i ≡ position_or_len is_free cells
free-here [] i d le lt e = absurd (omega arith)
free-here (Free ∷ cells) zero d le lt e = refl
free-here (OutTo by ∷ cells) zero d le lt e = absurd cc
free-here (Done ∷ cells) zero d le lt e = absurd cc
free-here (Free ∷ cells) (suc i) d le lt e = absurd (omega (arith, le))
free-here (OutTo by ∷ cells) (suc i) d le lt e = let k : i ≡ position_or_len is_free cells = free-here cells i d (omega (arith, le)) (omega (arith, lt)) e in omega (arith, k)
free-here (Done ∷ cells) (suc i) d le lt e = let k : i ≡ position_or_len is_free cells = free-here cells i d (omega (arith, le)) (omega (arith, lt)) e in omega (arith, k)

pub free-at : (cells : List Cell) (i : ℕ) (d : Cell) → i ≡ position_or_len is_free cells → i < length cells → get_or cells i d ≡ Free
free-at [] i d is lt = absurd (omega arith)
free-at (Free ∷ cells) zero d is lt = refl
free-at (Free ∷ cells) (suc i) d is lt = absurd (omega (arith, is))
free-at (OutTo by ∷ cells) zero d is lt = absurd (omega (arith, is))
free-at (OutTo by ∷ cells) (suc i) d is lt = free-at cells i d (omega (arith, is)) (omega (arith, lt))
free-at (Done ∷ cells) zero d is lt = absurd (omega (arith, is))
free-at (Done ∷ cells) (suc i) d is lt = free-at cells i d (omega (arith, is)) (omega (arith, lt))

-- none that is free is put before the first one
pub free-stays : (cells : List Cell) (i : ℕ) (c : Cell) → is_free c ≡ false → position_or_len is_free cells ≤ position_or_len is_free (set cells i c)
free-stays [] i c e = omega arith
free-stays (Free ∷ cells) zero c e = omega arith
free-stays (OutTo by ∷ cells) zero Free e = absurd cc
free-stays (OutTo by ∷ cells) zero (OutTo other) e = omega arith
free-stays (OutTo by ∷ cells) zero Done e = omega arith
free-stays (Done ∷ cells) zero Free e = absurd cc
free-stays (Done ∷ cells) zero (OutTo other) e = omega arith
free-stays (Done ∷ cells) zero Done e = omega arith
free-stays (Free ∷ cells) (suc i) c e = omega arith
free-stays (OutTo by ∷ cells) (suc i) c e = let k : position_or_len is_free cells ≤ position_or_len is_free (set cells i c) = free-stays cells i c e in omega (arith, k)
free-stays (Done ∷ cells) (suc i) c e = let k : position_or_len is_free cells ≤ position_or_len is_free (set cells i c) = free-stays cells i c e in omega (arith, k)

-- before one that changes none is free that was not
pub free-before : (cells : List Cell) (i n : ℕ) (c : Cell) → n ≤ position_or_len is_free cells → n ≤ i → n ≤ position_or_len is_free (set cells i c)
free-before [] i n c le below = le
free-before (x ∷ cells) zero n c le below = omega (arith, below)
free-before (Free ∷ cells) (suc i) n c le below = omega (arith, le)
free-before (OutTo by ∷ cells) (suc i) zero c le below = omega arith
free-before (OutTo by ∷ cells) (suc i) (suc n) c le below = let k : n ≤ position_or_len is_free (set cells i c) = free-before cells i n c (omega (arith, le)) (omega (arith, below)) in omega (arith, k)
free-before (Done ∷ cells) (suc i) zero c le below = omega arith
free-before (Done ∷ cells) (suc i) (suc n) c le below = let k : n ≤ position_or_len is_free (set cells i c) = free-before cells i n c (omega (arith, le)) (omega (arith, below)) in omega (arith, k)

pub free-some : (cells : List Cell) (i : ℕ) → i ≡ position_or_len is_free cells → i < length cells → first_free cells ≡ Some i
free-some cells i is lt =
    ap (λ (t : Bool). cond t (Some (position_or_len is_free cells)) None) (lt-ltb (position_or_len is_free cells) (length cells) (omega (arith, is, lt))) ∙ ap (λ (n : ℕ). Some n) (sym is)

pub free-none : (cells : List Cell) → length cells ≤ position_or_len is_free cells → first_free cells ≡ None
free-none cells le = ap (λ (t : Bool). cond t (Some (position_or_len is_free cells)) None) (le-ltb (position_or_len is_free cells) (length cells) le)

-- ---- counts

pub counts-within : (cells : List Cell) → (out_count cells ≤ length cells) × (count_by is_undone cells ≤ length cells)
counts-within cells = (count_by-le-length is_out cells, count_by-le-length is_undone cells)

held-is : (c : Cell) (by : ℕ) → holder c ≡ Some by → c ≡ OutTo by
held-is Free by e = absurd cc
held-is (OutTo other) by e = ap (λ (o : Option ℕ). cell_for o) e
  where
    cell_for : Option ℕ → Cell
    cell_for None = Free
    cell_for (Some n) = OutTo n
held-is Done by e = absurd cc

-- the counts after one changed
pub set-counts : (cells : List Cell) (i : ℕ) (before c : Cell) → i < length cells → get_or cells i Done ≡ before
    → (out_count (set cells i c) + cond (is_out before) 1 0 ≡ out_count cells + cond (is_out c) 1 0) × (count_by is_undone (set cells i c) + cond (is_undone before) 1 0 ≡ count_by is_undone cells + cond (is_undone c) 1 0)
set-counts cells i before c lt e = (
  subst (λ (x : Cell). out_count (set cells i c) + cond (is_out x) 1 0 ≡ out_count cells + cond (is_out c) 1 0) e (sum_by-set (λ (x : Cell). cond (is_out x) 1 0) cells i c Done lt),
  subst (λ (x : Cell). count_by is_undone (set cells i c) + cond (is_undone x) 1 0 ≡ count_by is_undone cells + cond (is_undone c) 1 0) e (sum_by-set (λ (x : Cell). cond (is_undone x) 1 0) cells i c Done lt),
)

pub counted-out : (cells : List Cell) (from out left i by : ℕ) → AreCounted cells from out left → i ≡ position_or_len is_free cells → i < length cells → AreCounted (set cells i (OutTo by)) i (out + 1) left
counted-out cells from out left i by a is lt =
    let here : get_or cells i Done ≡ Free = free-at cells i Done is lt in
    let s = set-counts cells i Free (OutTo by) lt here in
    record {
      from_is = (let k : position_or_len is_free cells ≤ position_or_len is_free (set cells i (OutTo by)) = free-stays cells i (OutTo by) refl in omega (arith, k, is));
      out_is = omega (arith, s.0, a.out_is);
      left_is = omega (arith, s.1, a.left_is);
    }

pub counted-made : (cells : List Cell) (from out left n by : ℕ) → AreCounted cells from out left → holder (get_or cells n Done) ≡ Some by → (1 ≤ out) × (1 ≤ left) × AreCounted (set cells n Done) from (out - 1) (left - 1)
counted-made cells from out left n by a held =
    let s = set-counts cells n (OutTo by) Done (held_at cells n by held) (held-is (get_or cells n Done) by held) in
    let k : position_or_len is_free cells ≤ position_or_len is_free (set cells n Done) = free-stays cells n Done refl in (
      omega (arith, s.0, a.out_is),
      omega (arith, s.1, a.left_is),
      record { from_is = omega (arith, k, a.from_is); out_is = omega (arith, s.0, a.out_is); left_is = omega (arith, s.1, a.left_is) },
    )

pub counted-free : (cells : List Cell) (from now out left n by : ℕ) → AreCounted cells from out left → holder (get_or cells n Done) ≡ Some by → now ≤ from → now ≤ n → (1 ≤ out) × AreCounted (set cells n Free) now (out - 1) left
counted-free cells from now out left n by a held le below =
    let s = set-counts cells n (OutTo by) Free (held_at cells n by held) (held-is (get_or cells n Done) by held) in (
      omega (arith, s.0, a.out_is),
      record { from_is = free-before cells n now Free (omega (arith, le, a.from_is)) below; out_is = omega (arith, s.0, a.out_is); left_is = omega (arith, s.1, a.left_is) },
    )

pub none-out : (cells : List Cell) → list_any is_out cells ≡ false → out_count cells ≡ 0
none-out [] e = refl
none-out (Free ∷ cells) e = let k : out_count cells ≡ 0 = none-out cells e in let s : out_count (Free ∷ cells) ≡ 0 + out_count cells = sum_by-cons (λ (x : Cell). cond (is_out x) 1 0) Free cells in omega (arith, k, s)
none-out (OutTo by ∷ cells) e = absurd cc
none-out (Done ∷ cells) e = let k : out_count cells ≡ 0 = none-out cells e in let s : out_count (Done ∷ cells) ≡ 0 + out_count cells = sum_by-cons (λ (x : Cell). cond (is_out x) 1 0) Done cells in omega (arith, k, s)

pub all-done : (cells : List Cell) → eqb (count_by is_undone cells) 0 ≡ list_all is_done cells
all-done [] = refl
all-done (Free ∷ cells) =
    let s : count_by is_undone (Free ∷ cells) ≡ 1 + count_by is_undone cells = sum_by-cons (λ (x : Cell). cond (is_undone x) 1 0) Free cells in
    ne_eqb (count_by is_undone (Free ∷ cells)) 0 (λ z. absurd (omega (arith, s, z)))
all-done (OutTo by ∷ cells) =
    let s : count_by is_undone (OutTo by ∷ cells) ≡ 1 + count_by is_undone cells = sum_by-cons (λ (x : Cell). cond (is_undone x) 1 0) (OutTo by) cells in
    ne_eqb (count_by is_undone (OutTo by ∷ cells)) 0 (λ z. absurd (omega (arith, s, z)))
all-done (Done ∷ cells) =
    let s : count_by is_undone (Done ∷ cells) ≡ 0 + count_by is_undone cells = sum_by-cons (λ (x : Cell). cond (is_undone x) 1 0) Done cells in
    let same : count_by is_undone (Done ∷ cells) ≡ count_by is_undone cells = omega (arith, s) in
    ap (λ (n : ℕ). eqb n 0) same ∙ all-done cells

-- one more, as a loop counts
pub undone-more : (places : List Place) (i : ℕ) (d : Place) → i < length places
    → count_by is_undone (map cell_of (take (i + 1) places)) ≡ count_by is_undone (map cell_of (take i places)) + cond (is_undone (cell_of (get_or places i d))) 1 0
undone-more places i d lt =
    let long : i < length (map cell_of places) = subst (λ (n : ℕ). i < n) (sym (length-map places cell_of)) lt in
    let at : get_or (map cell_of places) i (cell_of d) ≡ cell_of (get_or places i d) = get_or-map cell_of places i d in
    ap (λ (cs : List Cell). count_by is_undone cs) (sym (take-map cell_of (i + 1) places))
    ∙ count_more (map cell_of places) i (cell_of d) long (is_undone (get_or (map cell_of places) i (cell_of d))) refl
    ∙ ap (λ (c : Cell). count_by is_undone (take i (map cell_of places)) + cond (is_undone c) 1 0) at
    ∙ ap (λ (cs : List Cell). count_by is_undone cs + cond (is_undone (cell_of (get_or places i d))) 1 0) (take-map cell_of i places)
  where
    count_more : (cells : List Cell) (i : ℕ) (d : Cell) → i < length cells → (t : Bool) → is_undone (get_or cells i d) ≡ t → count_by is_undone (take (i + 1) cells) ≡ count_by is_undone (take i cells) + cond t 1 0
    count_more cells i d lt true e = count_by_more_yes is_undone cells i d lt e
    count_more cells i d lt false e = (let k : count_by is_undone (take (i + 1) cells) ≡ count_by is_undone (take i cells) = count_by_more_no is_undone cells i d lt e in omega (arith, k))

-- ---- places

-- the caller that has what is found
abbrev pub holder_of : Option Place → Option ℕ
holder_of None = None
holder_of (Some place) = holder (cell_of place)

pub owner-at : (places : List Place) (n : ℕ) → holder (get_or (map cell_of places) n Done) ≡ holder_of (slice_get places n)
owner-at [] zero = refl
owner-at [] (suc n) = refl
owner-at (place ∷ places) zero = refl
owner-at (place ∷ places) (suc n) = owner-at places n

-- one changed, and what it is put beside is as it was
pub zip-set : {A B : Type 0} (R : A → B → Type 0) (xs : List A) (ys : List B) (i : ℕ) (y : B) → AllZip R xs ys → MatchOption (slice_get xs i) (Unit {0}) (λ x. R x y) → AllZip R xs (set ys i y)
zip-set R [] [] i y a m = tt
zip-set R [] (z ∷ ys) i y a m = absurd a
zip-set R (x ∷ xs) [] i y a m = absurd a
zip-set R (x ∷ xs) (z ∷ ys) zero y a m = (m, a.1)
zip-set R (x ∷ xs) (z ∷ ys) (suc i) y a m = (a.0, zip-set R xs ys i y a.1 m)

pub any_found : {A : Type 0} (P : A → Type 0) (o : Option A) → ((x : A) → P x) → MatchOption o (Unit {0}) P
any_found P None f = tt
any_found P (Some x) f = f x

pub if_found : {A : Type 0} (P : A → Type 0) (o : Option A) → MatchOption o ⊥ P → MatchOption o (Unit {0}) P
if_found P None m = absurd m
if_found P (Some x) m = m

-- where a place may be beside each thing that is planned
pub record MayAlways (place : Place) : Type 0 where
  pub may : (t : Todo) → MayBeAt t place

pub free-may : MayAlways places.Free
free-may = record { may = λ t. go t }
  where
    go : (t : Todo) → MayBeAt t places.Free
    go (todo.Carried set) = tt
    go (todo.Piece piece) = tt

pub out-may : (by : ℕ) → MayAlways (places.Out by)
out-may by = record { may = λ t. go t }
  where
    go : (t : Todo) → MayBeAt t (places.Out by)
    go (todo.Carried set) = tt
    go (todo.Piece piece) = tt

-- the pieces with one elsewhere
pub place-set : (x : Placed) (n : ℕ) (place : Place) (b p : List Past) → MayAlways place → MatchOption (slice_get (git_ranges_in p) n) (Unit {0}) (λ r. IsMadeOf p r place) → ArePiecesOf x b p → ArePiecesOf (with_place x n place) b p
place-set x n place b p may made a =
    record {
      plan = a.plan;
      made = zip-set (IsMadeOf p) (git_ranges_in p) x.places n place a.made made;
      planned = zip-set MayBeAt x.plan.todo.items x.places n place a.planned (any_found (λ (t : Todo). MayBeAt t place) (slice_get x.plan.todo.items n) may.may);
    }

pub free-set : (x : Placed) (n : ℕ) (b p : List Past) → ArePiecesOf x b p → ArePiecesOf (with_place x n places.Free) b p
free-set x n b p a = place-set x n places.Free b p free-may (any_found (λ (r : GitRange). IsMadeOf p r places.Free) (slice_get (git_ranges_in p) n) (λ r. tt)) a

pub out-set : (x : Placed) (n by : ℕ) (b p : List Past) → ArePiecesOf x b p → ArePiecesOf (with_place x n (places.Out by)) b p
out-set x n by b p a = place-set x n (places.Out by) b p (out-may by) (any_found (λ (r : GitRange). IsMadeOf p r (places.Out by)) (slice_get (git_ranges_in p) n) (λ r. tt)) a

pub made-set : (set : Arc Known Global) (x : Placed) (n : ℕ) (b p : List Past) → MatchOption (slice_get (git_ranges_in p) n) ⊥ (λ r. IsSetOf p r (arc_value set)) → ArePiecesOf x b p → ArePiecesOf (with_place x n (places.Made set)) b p
made-set set x n b p made a =
    place-set x n (places.Made set) b p (record { may = λ t. go t }) (if_found (λ (r : GitRange). IsMadeOf p r (places.Made set)) (slice_get (git_ranges_in p) n) made) a
  where
    go : (t : Todo) → MayBeAt t (places.Made set)
    go (todo.Carried one) = tt
    go (todo.Piece piece) = tt

-- how many places there are
pub places-long : (x : Placed) (b p : List Past) → ArePiecesOf x b p → length x.places ≡ length x.plan.todo.items
places-long x b p a = AllZip-long MayBeAt x.plan.todo.items x.places a.planned

-- ---- a plan that was just made

planned-made : (p : List Past) (b : List Past) (ranges : List GitRange) (ts : List Todo) → AllZip (IsTodoOf b p) ranges ts → AllZip (IsMadeOf p) ranges (map planned_place ts)
planned-made p b [] [] a = tt
planned-made p b [] (t ∷ ts) a = absurd a
planned-made p b (r ∷ ranges) [] a = absurd a
planned-made p b (r ∷ ranges) (todo.Carried set ∷ ts) a = (tt, planned-made p b ranges ts a.1)
planned-made p b (r ∷ ranges) (todo.Piece piece ∷ ts) a = (tt, planned-made p b ranges ts a.1)

planned-may : (ts : List Todo) → AllZip MayBeAt ts (map planned_place ts)
planned-may [] = tt
planned-may (todo.Carried set ∷ ts) = (tt, planned-may ts)
planned-may (todo.Piece piece ∷ ts) = (tt, planned-may ts)

pub planned-pieces : (plan : plans.Plan) (ps : List Place) (b p : List Past) → IsPlanOf plan b p → ps ≡ map planned_place plan.todo.items → ArePiecesOf (record { plan = plan; places = ps }) b p
planned-pieces plan ps b p is e =
    record {
      plan = is;
      made = subst (λ (xs : List Place). AllZip (IsMadeOf p) (git_ranges_in p) xs) (sym e) (planned-made p b (git_ranges_in p) plan.todo.items is.todo);
      planned = subst (λ (xs : List Place). AllZip MayBeAt plan.todo.items xs) (sym e) (planned-may plan.todo.items);
    }

-- ---- the sets that pieces made

-- the first, or none
abbrev head_or : List (Option Known) → Option Known
head_or [] = None
head_or (x ∷ xs) = x

both : (a b : Bool) → (a && b) ≡ true → (a ≡ true) × (b ≡ true)
both true b e = (refl, e)
both false b e = absurd cc

made-is : {Z : Type 0} (p : List Past) (r : GitRange) (place : Place) (made : Option (Arc Known Z)) → option_map (λ a. arc_value a) made ≡ set_at place → IsMadeOf p r place → IsMadeFor p r made
made-is p r places.Free None e m = tt
made-is p r places.Free (Some a) e m = absurd cc
made-is p r (places.Out by) None e m = tt
made-is p r (places.Out by) (Some a) e m = absurd cc
made-is p r (places.Made set) None e m = tt
made-is p r (places.Made set) (Some a) e m = subst (λ (o : Option Known). IfSome o (λ known. IsSetOf p r known)) (sym e) m
made-is p r places.Carried None e m = tt
made-is p r places.Carried (Some a) e m = absurd cc

all-made-is : {Z : Type 0} (p : List Past) (ranges : List GitRange) (ps : List Place) (made : List (Option (Arc Known Z))) → map (λ m. option_map (λ a. arc_value a) m) made ≡ map set_at ps → AllZip (IsMadeOf p) ranges ps → AllZip (IsMadeFor p) ranges made
all-made-is p [] [] [] e a = tt
all-made-is p [] [] (m ∷ made) e a = absurd cc
all-made-is p [] (x ∷ ps) made e a = absurd a
all-made-is p (r ∷ ranges) [] made e a = absurd a
all-made-is p (r ∷ ranges) (x ∷ ps) [] e a = absurd cc
all-made-is {Z = Z} p (r ∷ ranges) (x ∷ ps) (m ∷ made) e a = (made-is p r x m (ap (λ (xs : List (Option Known)). head_or xs) e) a.0, all-made-is p ranges ps made (ap (λ (xs : List (Option Known)). drop 1 xs) e) a.1)

has-set : {Z : Type 0} (t : Todo) (place : Place) (made : Option (Arc Known Z)) → option_map (λ a. arc_value a) made ≡ set_at place → is_done (cell_of place) ≡ true → MayBeAt t place → HasSet t made
has-set (todo.Carried set) place made e d m = tt
has-set (todo.Piece piece) places.Free made e d m = absurd cc
has-set (todo.Piece piece) (places.Out by) made e d m = absurd cc
has-set (todo.Piece piece) (places.Made set) None e d m = absurd cc
has-set (todo.Piece piece) (places.Made set) (Some a) e d m = refl
has-set (todo.Piece piece) places.Carried made e d m = absurd m

all-have : {Z : Type 0} (ts : List Todo) (ps : List Place) (made : List (Option (Arc Known Z))) → map (λ m. option_map (λ a. arc_value a) m) made ≡ map set_at ps → list_all is_done (map cell_of ps) ≡ true → AllZip MayBeAt ts ps → AllZip HasSet ts made
all-have [] [] [] e d a = tt
all-have [] [] (m ∷ made) e d a = absurd cc
all-have [] (x ∷ ps) made e d a = absurd a
all-have (t ∷ ts) [] made e d a = absurd a
all-have (t ∷ ts) (x ∷ ps) [] e d a = absurd cc
all-have (t ∷ ts) (x ∷ ps) (m ∷ made) e d a =
    let parts = both (is_done (cell_of x)) (list_all is_done (map cell_of ps)) d in
    (has-set t x m (ap (λ (xs : List (Option Known)). head_or xs) e) parts.0 a.0, all-have ts ps made (ap (λ (xs : List (Option Known)). drop 1 xs) e) parts.1 a.1)

pub filled-is : (x : Placed) (y : Filled) (b p : List Past) → arc_value y.plan ≡ x.plan → map (λ m. option_map (λ a. arc_value a) m) y.made.items ≡ map set_at x.places → ArePiecesOf x b p → ArePiecesDone x → IsFilledOf y b p
filled-is x y b p plan e a d =
    record {
      plan = subst (λ (q : plans.Plan). IsPlanOf q b p) (sym plan) a.plan;
      made = all-made-is p (git_ranges_in p) x.places y.made.items e a.made;
      whole = subst (λ (q : plans.Plan). AllZip HasSet q.todo.items y.made.items) (sym plan) (all-have x.plan.todo.items x.places y.made.items e d a.planned);
    }

-- ---- as the code has them

pub place-freed : (plan : plans.Plan) (ps : List Place) (x : Placed) (from now out left n by : ℕ) → record { plan = plan; places = ps } ≡ x → IsOutTo by n (cells_of x) → AreCounted (map cell_of ps) from out left → now ≤ from → now ≤ n
    → (1 ≤ out) × AreCounted (map cell_of (set ps n places.Free)) now (out - 1) left
place-freed plan ps x from now out left n by view held a le below =
    let f = counted-free (map cell_of ps) from now out left n by a (subst (λ (y : Placed). IsOutTo by n (cells_of y)) (sym view) held) le below in
    (f.0, subst (λ (cs : List Cell). AreCounted cs now (out - 1) left) (sym (map-set cell_of ps n places.Free)) f.1)

pub place-made : (plan : plans.Plan) (ps : List Place) (x : Placed) (known : Arc Known Global) (from out left n by : ℕ) → record { plan = plan; places = ps } ≡ x → IsOutTo by n (cells_of x) → AreCounted (map cell_of ps) from out left
    → (1 ≤ out) × (1 ≤ left) × AreCounted (map cell_of (set ps n (places.Made known))) from (out - 1) (left - 1)
place-made plan ps x known from out left n by view held a =
    let f = counted-made (map cell_of ps) from out left n by a (subst (λ (y : Placed). IsOutTo by n (cells_of y)) (sym view) held) in
    (f.0, f.1, subst (λ (cs : List Cell). AreCounted cs from (out - 1) (left - 1)) (sym (map-set cell_of ps n (places.Made known))) f.2)

-- a walk to the first that is free
pub walk-on : (ps : List Place) (i : ℕ) (r : Place) (t : Bool) → i ≤ position_or_len is_free (map cell_of ps) → i < length ps → r ≡ get_or ps i r → t ≡ is_free (cell_of r) → t ≡ false → i + 1 ≤ position_or_len is_free (map cell_of ps)
walk-on ps i r t le lt is e off =
    let long : length (map cell_of ps) ≡ length ps = length-map ps cell_of in
    free-later (map cell_of ps) i (cell_of r) le (omega (arith, long, lt)) (ap is_free (get_or-map cell_of ps i r ∙ ap cell_of (sym is)) ∙ sym e ∙ off)

pub walk-here : (ps : List Place) (i : ℕ) (r : Place) (t : Bool) → i ≤ position_or_len is_free (map cell_of ps) → i < length ps → r ≡ get_or ps i r → t ≡ is_free (cell_of r) → t ≡ true → i ≡ position_or_len is_free (map cell_of ps)
walk-here ps i r t le lt is e on =
    let long : length (map cell_of ps) ≡ length ps = length-map ps cell_of in
    free-here (map cell_of ps) i (cell_of r) le (omega (arith, long, lt)) (ap is_free (get_or-map cell_of ps i r ∙ ap cell_of (sym is)) ∙ sym e ∙ on)

pub walk-end : (ps : List Place) (i : ℕ) → i ≤ position_or_len is_free (map cell_of ps) → length ps ≤ i → length ps ≡ position_or_len is_free (map cell_of ps)
walk-end ps i le end =
    let long : length (map cell_of ps) ≡ length ps = length-map ps cell_of in
    let most : position_or_len is_free (map cell_of ps) ≤ length (map cell_of ps) = free-within (map cell_of ps) in
    omega (arith, long, most, le, end)

pub place-out : (ps : List Place) (from out left i by : ℕ) → AreCounted (map cell_of ps) from out left → i ≡ position_or_len is_free (map cell_of ps) → i < length ps → AreCounted (map cell_of (set ps i (places.Out by))) i (out + 1) left
place-out ps from out left i by a is lt =
    let long : length (map cell_of ps) ≡ length ps = length-map ps cell_of in
    subst (λ (cs : List Cell). AreCounted cs i (out + 1) left) (sym (map-set cell_of ps i (places.Out by))) (counted-out (map cell_of ps) from out left i by a is (omega (arith, long, lt)))

pub count-new : (ps seen : List Place) (left : ℕ) → seen ≡ ps → list_any is_out (map cell_of ps) ≡ false → left ≡ count_by is_undone (map cell_of seen) → AreCounted (map cell_of ps) 0 0 left
count-new ps seen left same none e = record { from_is = omega arith; out_is = sym (none-out (map cell_of ps) none); left_is = e ∙ ap (λ (xs : List Place). count_by is_undone (map cell_of xs)) same }
