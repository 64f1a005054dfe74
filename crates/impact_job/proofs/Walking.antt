-- A walk over GIT ranges, one after another.
use Rattle.std.proofs.Common.{◌≡◌, ℕ, suc, Bool, true, false, cond, List, [], ◌∷◌, ◌++◌, length, map, drop, Some, refl, sym, ap, subst, ◌∙◌, append_assoc, arith}
use Rattle.std.specs.Prelude.{◌==◌, slice_get}
use Rattle.std.specs.Arc.{arc_value}
use Rattle.std.specs.declared.sync.Arc.{Arc}
use Rattle.std.specs.List.{AllZip}
use Rattle.std.proofs.lemmas.Bool.{eqb-true}
use Rattle.std.proofs.lemmas.List.{append-nil}
use Rattle.history.specs.declared.past.Past.{Past}
use Rattle.history.specs.Pieces.{GitRange, git_ranges_in}
use Rattle.impact_set.specs.Standing.{Known}
use Rattle.piece_work.specs.Sets.{IsSetOf}
use Rattle.impact_job.specs.declared.tables.Todo.{Todo}
use Rattle.impact_job.specs.Tables.{IsTodoOf}
use Rattle.impact_job.specs.Walks.{IsBegun, AreOld, IsOld}

-- ---- two lists, place by place

module _ {X Y : Type 0} (R : X → Y → Type 0) where
  pub zip-length : (xs : List X) (ys : List Y) → AllZip R xs ys → length xs ≡ length ys
  zip-length [] [] z = refl
  zip-length [] (y ∷ ys) z = absurd z
  zip-length (x ∷ xs) [] z = absurd z
  zip-length (x ∷ xs) (y ∷ ys) z = ap (λ (n : ℕ). suc n) (zip-length xs ys z.1)

  pub zip-push : (xs : List X) (ys : List Y) (x : X) (y : Y) → AllZip R xs ys → R x y → AllZip R (xs ++ x ∷ []) (ys ++ y ∷ [])
  zip-push [] [] x y z r = (r, tt)
  zip-push [] (v ∷ ys) x y z r = absurd z
  zip-push (u ∷ xs) [] x y z r = absurd z
  zip-push (u ∷ xs) (v ∷ ys) x y z r = (z.0, zip-push xs ys x y z.1 r)

pub at_seam : {X : Type 0} (xs : List X) (x : X) (ys : List X) → slice_get (xs ++ x ∷ ys) (length xs) ≡ Some x
at_seam [] x ys = refl
at_seam (u ∷ xs) x ys = at_seam xs x ys

-- ---- a range more

module _ (b p : List Past) where
  pub begun-number : (todo : List Todo) (x : GitRange) (later : List GitRange) → IsBegun b p todo (x ∷ later) → slice_get (git_ranges_in p) (length todo) ≡ Some x
  begun-number todo x later w =
      ap (λ (n : ℕ). slice_get (git_ranges_in p) n) (sym (zip-length (IsTodoOf b p) w.walked todo w.done))
      ∙ ap (λ (xs : List GitRange). slice_get xs (length w.walked)) (sym w.whole) ∙ at_seam w.walked x later

  pub begun-push : (todo : List Todo) (t : Todo) (x : GitRange) (later : List GitRange) → IsBegun b p todo (x ∷ later) → IsTodoOf b p x t → IsBegun b p (todo ++ t ∷ []) later
  begun-push todo t x later w is =
      record {
        walked = w.walked ++ x ∷ [];
        whole = append_assoc w.walked (x ∷ []) later ∙ w.whole;
        done = zip-push (IsTodoOf b p) w.walked todo x t w.done is;
      }

  pub begun-end : (todo : List Todo) → IsBegun b p todo [] → AllZip (IsTodoOf b p) (git_ranges_in p) todo
  begun-end todo w = subst (λ (xs : List GitRange). AllZip (IsTodoOf b p) xs todo) (sym (append-nil w.walked) ∙ w.whole) w.done

  -- the first range among an entry's, where it is a GIT range
  pub begun-git : (g : Bool) (todo : List Todo) (x : GitRange) (xs later : List GitRange) → g ≡ true → IsBegun b p todo (cond g (x ∷ xs) xs ++ later) → IsBegun b p todo (x ∷ (xs ++ later))
  begun-git true todo x xs later e w = w
  begun-git false todo x xs later e w = absurd cc

  -- and where it is none
  pub begun-other : (g : Bool) (todo : List Todo) (x : GitRange) (xs later : List GitRange) → g ≡ false → IsBegun b p todo (cond g (x ∷ xs) xs ++ later) → IsBegun b p todo (xs ++ later)
  begun-other true todo x xs later e w = absurd cc
  begun-other false todo x xs later e w = w

-- ---- the sets that ranges had

module _ (b : List Past) where
  old-first : (anew : Bool) (x : GitRange) (xs : List GitRange) (sets : List Known) → AreOld anew b (x ∷ xs) sets → IsOld anew b x (slice_get sets 0) × AreOld anew b xs (drop 1 sets)
  old-first true x xs [] o = (refl, refl)
  old-first true x xs (s ∷ sets) o = absurd cc
  old-first false x xs [] o = absurd o
  old-first false x xs (s ∷ sets) o = o

  pub old-git : (anew g : Bool) (x : GitRange) (xs more : List GitRange) (sets : List Known) → g ≡ true → AreOld anew b (cond g (x ∷ xs) xs ++ more) sets
      → IsOld anew b x (slice_get sets 0) × AreOld anew b (xs ++ more) (drop 1 sets)
  old-git anew true x xs more sets e o = old-first anew x (xs ++ more) sets o
  old-git anew false x xs more sets e o = absurd cc

  pub old-other : (anew g : Bool) (x : GitRange) (xs more : List GitRange) (sets : List Known) → g ≡ false → AreOld anew b (cond g (x ∷ xs) xs ++ more) sets → AreOld anew b (xs ++ more) sets
  old-other anew true x xs more sets e o = absurd cc
  old-other anew false x xs more sets e o = o

  -- ranges without a set are none
  pub none-old : {Z : Type 0} (xs : List GitRange) (sets : List (Arc Known Z)) → (length sets == 0) ≡ true → AllZip (IsSetOf b) xs (map (λ a. arc_value a) sets) → xs ≡ []
  none-old [] sets e z = refl
  none-old (x ∷ xs) [] e z = absurd z
  none-old (x ∷ xs) (s ∷ sets) e z = let n : length (s ∷ sets) ≡ 0 = eqb-true (length (s ∷ sets)) 0 e in absurd (omega (arith, n))
