-- Entries of an earlier list at their places in a later one.
use Rattle.std.proofs.Common.{◌≡◌, ℕ, ◌<◌, Bool, true, false, ◌&&◌, ◌||◌, eqb, ltb, List, [], ◌∷◌, ◌++◌, length, get_or, zero, suc, Option, Some, None, refl, sym, ap, ◌∙◌, arith}
use Rattle.std.specs.Prelude.{slice_get}
use Rattle.std.specs.Option.{option_map_or}
use Rattle.std.specs.List.{list_any, zip}
use Rattle.std.proofs.lemmas.Bool.{lt-ltb, ltb-true, false_from_ne_true}
use Rattle.std.proofs.lemmas.List.Folds.{list_any-append}
use Rattle.package_index.specs.Noted.{goes_to, is_entry, is_moved_entry}
use Rattle.package_index.proofs.Noting.{Entries}

or_no : (a : Bool) → (a || false) ≡ a
or_no true = refl
or_no false = refl

and_no : (a : Bool) → (a && false) ≡ false
and_no true = refl
and_no false = refl

pub got : {X : Type 0} (xs : List X) (i : ℕ) (x : X) → i < length xs → x ≡ get_or xs i x → slice_get xs i ≡ Some x
got [] i x lt is = absurd (omega (arith, lt))
got (y ∷ xs) zero x lt is = ap (λ z. Some z) (sym is)
got (y ∷ xs) (suc i) x lt is = got xs i x (omega (arith, lt)) is

pub not-got : {X : Type 0} (xs : List X) (i : ℕ) → (i < length xs → ⊥) → slice_get xs i ≡ None
not-got [] i no_lt = refl
not-got (y ∷ xs) zero no_lt = absurd (no_lt (omega arith))
not-got (y ∷ xs) (suc i) no_lt = not-got xs i (λ h. no_lt (omega (arith, h)))

-- ---- keys and places side by side

pub zip-long : {X Y : Type 0} (xs : List X) (ys : List Y) → length ys ≡ length xs → length (zip xs ys) ≡ length xs
zip-long [] ys same = refl
zip-long (x ∷ xs) [] same = absurd (omega (arith, same))
zip-long (x ∷ xs) (y ∷ ys) same = ap suc (zip-long xs ys (omega (arith, same)))

pub zip-at : {X Y : Type 0} (xs : List X) (ys : List Y) (i : ℕ) (d : X) (e : Y) → length ys ≡ length xs → i < length xs → get_or (zip xs ys) i (d, e) ≡ (get_or xs i d, get_or ys i e)
zip-at [] ys i d e same lt = absurd (omega (arith, lt))
zip-at (x ∷ xs) [] i d e same lt = absurd (omega (arith, same))
zip-at (x ∷ xs) (y ∷ ys) zero d e same lt = refl
zip-at (x ∷ xs) (y ∷ ys) (suc i) d e same lt = zip-at xs ys i d e (omega (arith, same)) (omega (arith, lt))

-- where an advisory is in the later list
pub goes : (moved : List ℕ) (count i k j : ℕ) → slice_get moved i ≡ Some k → k < count → goes_to moved count i j ≡ eqb k j
goes moved count i k j is lt = ap (λ (o : Option ℕ). option_map_or (λ n. ltb n count && eqb n j) o false) is ∙ ap (λ (b : Bool). b && eqb k j) (lt-ltb k count lt)

pub goes-not : (moved : List ℕ) (count i k j : ℕ) → slice_get moved i ≡ Some k → (k < count → ⊥) → goes_to moved count i j ≡ false
goes-not moved count i k j is no_lt =
    ap (λ (o : Option ℕ). option_map_or (λ n. ltb n count && eqb n j) o false) is ∙ ap (λ (b : Bool). b && eqb k j) (false_from_ne_true (ltb k count) (λ h. no_lt (ltb-true k count h)))

pub goes-none : (moved : List ℕ) (count i j : ℕ) → slice_get moved i ≡ None → goes_to moved count i j ≡ false
goes-none moved count i j is = ap (λ (o : Option ℕ). option_map_or (λ n. ltb n count && eqb n j) o false) is

-- an entry that is still there
pub entry-moved : (es : Entries) (moved : List ℕ) (count n m j : ℕ) (key : ℕ × ℕ) (i k : ℕ) → goes_to moved count i j ≡ eqb k j
    → list_any (is_entry n m j) (es ++ (key, k) ∷ []) ≡ (list_any (is_entry n m j) es || is_moved_entry moved count n m j (key, i))
entry-moved es moved count n m j key i k is =
    list_any-append (is_entry n m j) es ((key, k) ∷ [])
    ∙ ap (λ (b : Bool). list_any (is_entry n m j) es || b) (or_no ((eqb key.0 n && eqb key.1 m) && eqb k j) ∙ ap (λ (b : Bool). (eqb key.0 n && eqb key.1 m) && b) (sym is))

-- one that is gone
pub entry-gone : (es : Entries) (moved : List ℕ) (count n m j : ℕ) (key : ℕ × ℕ) (i : ℕ) → goes_to moved count i j ≡ false
    → list_any (is_entry n m j) es ≡ (list_any (is_entry n m j) es || is_moved_entry moved count n m j (key, i))
entry-gone es moved count n m j key i is =
    sym (ap (λ (b : Bool). list_any (is_entry n m j) es || ((eqb key.0 n && eqb key.1 m) && b)) is ∙ ap (λ (b : Bool). list_any (is_entry n m j) es || b) (and_no (eqb key.0 n && eqb key.1 m))
    ∙ or_no (list_any (is_entry n m j) es))
