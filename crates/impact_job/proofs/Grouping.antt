-- The sets of what a build was to do, by advisory.
use Rattle.std.proofs.Common.{◌≡◌, ℕ, zero, suc, ◌+◌, ◌<◌, ◌≤◌, Bool, true, false, cond, List, [], ◌∷◌, ◌++◌, length, map, take, drop, get_or, length-append, refl, sym, ap, subst, ◌∙◌, arith}
use Rattle.std.specs.Prelude.{flat_map, slice_get, Some}
use Rattle.std.specs.List.{AllZip, AllByRecursion}
use Rattle.std.proofs.lemmas.List.{take_all, map_more}
use Rattle.std.proofs.lemmas.List.Recursion.{is_count_by}
use Rattle.std.specs.Arc.{arc_value}
use mathlib.Core.List.{IsPrefix}
use Rattle.osv_record.specs.Advisories.{Extent, Entry, Advisory, is_git, git_ranges_of, git_ranges}
use Rattle.history.specs.declared.past.Past.{Past}
use Rattle.history.specs.Prefixes.{graph}
use Rattle.history.specs.Pieces.{GitRange, repo_of, ranges_from, ranges_of_entries, ranges_of}
use Rattle.impact_set.specs.Standing.{Known, StandsFor}
use Rattle.piece_work.specs.declared.piece.Piece as to_do
use Rattle.piece_work.specs.Works.{events_of}
use Rattle.piece_work.specs.Sets.{IsSetOf}
use Rattle.piece_work.proofs.Readiness.{piece-ready, piece-events}
use Rattle.osv_prim.specs.declared.event.Event.{Event}
use Rattle.osv_prim.specs.declared.oid.CommitRow.{CommitRow}
use Rattle.impact_job.specs.declared.tables.Todo.{Todo}
use Rattle.impact_job.specs.declared.tables.Todo.TheVariants.{Carried, Piece}
use Rattle.impact_job.specs.Tables.{IsPieceFor, IsTodoOf}
use Rattle.impact_job.specs.Walks.{CanBeDone}
use Rattle.impact_job.proofs.Walking.{zip-length}

-- ---- pieces

module _ (b p : List Past) (front : IsPrefix b p) where
  can_one : (x : GitRange) (t : Todo) → IsTodoOf b p x t → CanBeDone t
  can_one x (Carried set) is = tt
  can_one x (Piece piece) is = piece-ready piece b p front is.its_piece

  pub can-each : (xs : List GitRange) (ts : List Todo) → AllZip (IsTodoOf b p) xs ts → AllByRecursion CanBeDone ts
  can-each [] [] z = tt
  can-each [] (t ∷ ts) z = tt_of z
    where
      tt_of : ⊥ → AllByRecursion CanBeDone (t ∷ ts)
      tt_of e = absurd e
  can-each (x ∷ xs) [] z = tt
  can-each (x ∷ xs) (t ∷ ts) z = (can_one x t z.0, can-each xs ts z.1)

pub piece-set : (b p : List Past) (x : GitRange) (piece : to_do.Piece) (set : Known) → IsPieceFor b p x piece → StandsFor (events_of piece) (arc_value piece.graph) set → IsSetOf p x set
piece-set b p x piece set is stands =
    let own : IsSetOf p is.its_piece.range set =
    subst (λ (es : List Event). StandsFor es (graph p (repo_of is.its_piece.range)) set) (piece-events piece b p is.its_piece)
    (subst (λ (g : List CommitRow). StandsFor (events_of piece) g set) is.its_piece.its_graph stands)
    in
    subst (λ (y : GitRange). IsSetOf p y set) is.its_range own

pub can-at : (ts : List Todo) (i : ℕ) (d : Todo) → i < length ts → AllByRecursion CanBeDone ts → CanBeDone (get_or ts i d)
can-at [] i d lt a = absurd (omega arith)
can-at (t ∷ ts) zero d lt a = a.0
can-at (t ∷ ts) (suc i) d lt a = can-at ts i d (omega arith) a.1

-- ---- how many GIT ranges an advisory has

from_step : (b : Bool) (x : GitRange) (xs : List GitRange) (n : ℕ) → length xs ≡ n → length (cond b (x ∷ xs) xs) ≡ cond b (1 + n) n
from_step true x xs n e = let k : suc (length xs) ≡ 1 + n = omega (arith, e) in k
from_step false x xs n e = e

git_count : List Extent → ℕ
git_count [] = 0
git_count (x ∷ xs) = cond (is_git x.kind) (1 + git_count xs) (git_count xs)

from-git_count : (r : Advisory) (e i : ℕ) (xs : List Extent) → length (ranges_from r e i xs) ≡ git_count xs
unfolding git_count
from-git_count r e i [] = refl
from-git_count r e i (x ∷ xs) =
    from_step (is_git x.kind) (record { advisory = r; entry = e; range = i; extent = x }) (ranges_from r e (i + 1) xs) (git_count xs) (from-git_count r e (i + 1) xs)

from-count : (r : Advisory) (e i : ℕ) (xs : List Extent) → length (ranges_from r e i xs) ≡ git_ranges_of xs
unfolding git_count
from-count r e i xs = from-git_count r e i xs ∙ is_count_by git_count (λ (x : Extent). is_git x.kind) refl (λ x rest. refl) xs

entries-count : (r : Advisory) (e : ℕ) (entries : List Entry) → length (ranges_of_entries r e entries) ≡ git_ranges entries
entries-count r e [] = refl
entries-count r e (a ∷ rest) =
    length-append (ranges_from r e 0 a.ranges) (ranges_of_entries r (e + 1) rest)
    ∙ ap (λ (n : ℕ). n + length (ranges_of_entries r (e + 1) rest)) (from-count r e 0 a.ranges)
    ∙ ap (λ (n : ℕ). git_ranges_of a.ranges + n) (entries-count r (e + 1) rest)

pub range-count : (r : Advisory) → length (ranges_of r) ≡ git_ranges r.affected
range-count r = entries-count r 0 r.affected

-- ---- two lists, place by place, parted

module _ {X Y : Type 0} (R : X → Y → Type 0) where
  pub zip-take : (xs more : List X) (ys : List Y) → AllZip R (xs ++ more) ys → AllZip R xs (take (length xs) ys)
  zip-take [] more ys z = tt
  zip-take (x ∷ xs) more [] z = absurd z
  zip-take (x ∷ xs) more (y ∷ ys) z = (z.0, zip-take xs more ys z.1)

  pub zip-drop : (xs more : List X) (ys : List Y) → AllZip R (xs ++ more) ys → AllZip R more (drop (length xs) ys)
  zip-drop [] more ys z = z
  zip-drop (x ∷ xs) more [] z = absurd z
  zip-drop (x ∷ xs) more (y ∷ ys) z = zip-drop xs more ys z.1

  -- both from the front, and both from behind it
  pub both-take : (n : ℕ) (xs : List X) (ys : List Y) → AllZip R xs ys → AllZip R (take n xs) (take n ys)
  both-take zero xs ys z = tt
  both-take (suc n) [] [] z = tt
  both-take (suc n) [] (y ∷ ys) z = absurd z
  both-take (suc n) (x ∷ xs) [] z = absurd z
  both-take (suc n) (x ∷ xs) (y ∷ ys) z = (z.0, both-take n xs ys z.1)

  pub both-drop : (n : ℕ) (xs : List X) (ys : List Y) → AllZip R xs ys → AllZip R (drop n xs) (drop n ys)
  both-drop zero xs ys z = z
  both-drop (suc n) [] [] z = tt
  both-drop (suc n) [] (y ∷ ys) z = absurd z
  both-drop (suc n) (x ∷ xs) [] z = absurd z
  both-drop (suc n) (x ∷ xs) (y ∷ ys) z = both-drop n xs ys z.1

-- ---- turns of loops

module _ {X Y W : Type 0} (R : X → Y → Type 0) (S : X → W → Type 0) where
  -- what stands beside the items at an index of two lists
  pub record Beside (xs : List X) (i : ℕ) (y : Y) (w : W) : Type 0 where
    pub item : X
    pub more : take (i + 1) xs ≡ take i xs ++ item ∷ []
    pub is : R item y
    pub has : S item w

  beside : (xs : List X) (ys : List Y) (ws : List W) (i : ℕ) (d : Y) (e : W) → i < length ys → AllZip R xs ys → AllZip S xs ws → Beside xs i (get_or ys i d) (get_or ws i e)
  beside [] [] ws i d e lt z m = absurd (omega arith)
  beside [] (y ∷ ys) ws i d e lt z m = absurd z
  beside (x ∷ xs) [] ws i d e lt z m = absurd z
  beside (x ∷ xs) (y ∷ ys) [] i d e lt z m = absurd m
  beside (x ∷ xs) (y ∷ ys) (w ∷ ws) zero d e lt z m = record { item = x; more = refl; is = z.0; has = m.0 }
  beside (x ∷ xs) (y ∷ ys) (w ∷ ws) (suc i) d e lt z m =
      let b = beside xs ys ws i d e (omega arith) z.1 m.1 in
      let k : suc i + 1 ≡ suc (i + 1) = omega arith in
      record { item = b.item; more = ap (λ (n : ℕ). take n (x ∷ xs)) k ∙ ap (λ (us : List X). x ∷ us) b.more; is = b.is; has = b.has }

  pub beside-at : (xs : List X) (ys : List Y) (ws : List W) (i : ℕ) (y : Y) (w : W) → i < length ys → y ≡ get_or ys i y → w ≡ get_or ws i w → AllZip R xs ys → AllZip S xs ws → Beside xs i y w
  beside-at xs ys ws i y w lt at on z m = subst (λ (v : Y). Beside xs i v w) (sym at) (subst (λ (v : W). Beside xs i (get_or ys i y) v) (sym on) (beside xs ys ws i y w lt z m))

module _ {X Y : Type 0} (R : X → Y → Type 0) where
  both_at : (xs : List X) (ys : List Y) (i : ℕ) (d : X) (e : Y) → i < length xs → AllZip R xs ys → R (get_or xs i d) (get_or ys i e)
  both_at [] ys i d e lt z = absurd (omega arith)
  both_at (x ∷ xs) [] i d e lt z = absurd z
  both_at (x ∷ xs) (y ∷ ys) zero d e lt z = z.0
  both_at (x ∷ xs) (y ∷ ys) (suc i) d e lt z = both_at xs ys i d e (omega arith) z.1

  pub both-at : (xs : List X) (ys : List Y) (i : ℕ) (x : X) (y : Y) → i < length xs → x ≡ get_or xs i x → y ≡ get_or ys i y → AllZip R xs ys → R x y
  both-at xs ys i x y lt at on z = subst (λ (v : X). R v y) (sym at) (subst (λ (v : Y). R (get_or xs i x) v) (sym on) (both_at xs ys i x y lt z))

  -- what stands beside an item at a number
  pub standing-at : (xs : List X) (ys : List Y) (i : ℕ) (x : X) (y : Y) → slice_get xs i ≡ Some x → y ≡ get_or ys i y → AllZip R xs ys → R x y
  standing-at [] ys i x y e at z = absurd cc
  standing-at (u ∷ xs) [] i x y e at z = absurd z
  standing-at (u ∷ xs) (v ∷ ys) zero x y e at z = let same : u ≡ x = cc in subst (λ (t : X). R t y) same (subst (λ (t : Y). R u t) (sym at) z.0)
  standing-at (u ∷ xs) (v ∷ ys) (suc i) x y e at z = standing-at xs ys i x y e at z.1

  pub all-taken : (xs : List X) (ys : List Y) (n : ℕ) → length ys ≤ n → AllZip R xs ys → take n xs ≡ xs
  all-taken xs ys n le z = take_all n xs (let e : length xs ≡ length ys = zip-length R xs ys z in omega (arith, e, le))

-- what stands beside the ranges of one advisory more
pub grouped-more : {Y : Type 0} (R : GitRange → Y → Type 0) (r : Advisory) (rest : List Advisory) (ys : List Y) (count : ℕ) → count ≡ git_ranges r.affected → AllZip R (ranges_of r ++ flat_map ranges_of rest) ys
    → AllZip R (ranges_of r) (take count ys) × AllZip R (flat_map ranges_of rest) (drop count ys)
grouped-more R r rest ys count e z =
    let n : length (ranges_of r) ≡ count = range-count r ∙ sym e in (
      subst (λ (k : ℕ). AllZip R (ranges_of r) (take k ys)) n (zip-take R (ranges_of r) (flat_map ranges_of rest) ys z),
      subst (λ (k : ℕ). AllZip R (flat_map ranges_of rest) (drop k ys)) n (zip-drop R (ranges_of r) (flat_map ranges_of rest) ys z),
    )

pub taken-more : {X Y : Type 0} (see : X → Y) (xs : List X) (i : ℕ) (a : X) → i < length xs → a ≡ get_or xs i a → map see (take (i + 1) xs) ≡ map see (take i xs) ++ see a ∷ []
taken-more {X = X} see xs i a lt at = map_more see xs i a lt ∙ ap (λ (y : X). map see (take i xs) ++ see y ∷ []) (sym at)
