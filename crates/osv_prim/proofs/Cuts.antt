-- A list of lists as one list and the ends of its pieces.
use Rattle.std.proofs.Common.{◌≡◌, ℕ, zero, suc, ◌+◌, ◌-◌, ◌<◌, ◌≤◌, Bool, true, false, List, [], ◌∷◌, ◌++◌, length, get_or, take, drop, sum_by, Option, Some, None, Result, Ok, Err, OnOk, OnErr, refl, sym, ap, ◌∙◌, arith, inl, inr, length-append, length-drop}
use Rattle.std.specs.List.{list_any, position, position_from, slice_get, slice_range}
use Rattle.std.specs.Option.{is_some}
use Rattle.std.proofs.lemmas.Bool.{cases_Bool}
use Rattle.std.proofs.lemmas.Iterator.Adapters.{position_from-zero}
use Rattle.std.proofs.lemmas.List.{drop_at, drop-append-le, take-append-le, take_all, length-take}
use Rattle.std.proofs.lemmas.List.Sums.{sum_by-cons}
use Rattle.osv_prim.specs.Lists.{pieces, IsCut}

pub cut_within : (start : ℕ) (ends : List ℕ) (whole : ℕ) → IsCut start ends whole → start ≤ whole
cut_within start [] whole e = omega arith
cut_within start (end ∷ ends) whole cut = let rest = cut_within end ends whole cut.1 in omega (arith, cut.0)

pub count : {A : Type 0} (start : ℕ) (ends : List ℕ) (items : List A) → length (pieces start ends items) ≡ length ends
count start [] items = refl
count start (end ∷ ends) items = ap suc (count end ends items)

pub record IsPiece {A : Type 0} (start end : ℕ) (items piece : List A) : Type 0 where
  pub ordered : start ≤ end
  pub within : end ≤ length items
  pub is : piece ≡ slice_range items start end

-- the first piece ends within the whole
pub first_ends : (start : ℕ) (ends : List ℕ) (whole : ℕ) → IsCut start ends whole → 1 ≤ length ends → get_or ends 0 0 ≤ whole
first_ends start [] whole cut le = absurd (omega arith)
first_ends start (end ∷ ends) whole cut le = cut_within end ends whole cut.1

-- the piece at an index
pub piece_at : {A : Type 0} (start : ℕ) (ends : List ℕ) (items : List A) (k : ℕ) → IsCut start ends (length items) → k < length ends
    → IsPiece (get_or (start ∷ ends) k 0) (get_or ends k 0) items (get_or (pieces start ends items) k [])
piece_at start [] items k cut lt = absurd (omega arith)
piece_at start (end ∷ ends) items zero cut lt = record { ordered = cut.0; within = cut_within end ends (length items) cut.1; is = refl }
piece_at start (end ∷ ends) items (suc k) cut lt = piece_at end ends items k cut.1 (omega arith)

-- ---- one more piece

pub IsCut-push : (start : ℕ) (ends : List ℕ) (whole more : ℕ) → IsCut start ends whole → whole ≤ more → IsCut start (ends ++ more ∷ []) more
IsCut-push start [] whole more cut le = (omega arith, refl)
IsCut-push start (end ∷ ends) whole more cut le = (cut.0, IsCut-push end ends whole more cut.1 le)

same_piece : {A : Type 0} (start end : ℕ) (items list : List A) → start ≤ end → end ≤ length items → slice_range (items ++ list) start end ≡ slice_range items start end
same_piece start end items list p q =
    ap (take (end - start)) (drop-append-le start items list (omega arith))
    ∙ take-append-le (end - start) (drop start items) list (omega (arith, length-drop start items))

last_piece : {A : Type 0} (start : ℕ) (items list : List A) → start ≡ length items → slice_range (items ++ list) start (length (items ++ list)) ≡ list
last_piece start items list e =
    ap (take (length (items ++ list) - start)) (drop_at items list start (sym e))
    ∙ take_all (length (items ++ list) - start) list (omega (arith, length-append items list))

pub pieces-push : {A : Type 0} (start : ℕ) (ends : List ℕ) (items list : List A) → IsCut start ends (length items)
    → pieces start (ends ++ length (items ++ list) ∷ []) (items ++ list) ≡ pieces start ends items ++ list ∷ []
pieces-push {A} start [] items list cut = ap (λ (x : List A). x ∷ []) (last_piece start items list cut)
pieces-push {A} start (end ∷ ends) items list cut =
    ap (λ (x : List A). x ∷ pieces end (ends ++ length (items ++ list) ∷ []) (items ++ list)) (same_piece start end items list cut.0 (cut_within end ends (length items) cut.1))
    ∙ ap (λ (xs : List (List A)). slice_range items start end ∷ xs) (pieces-push end ends items list cut.1)

-- what a push leaves, whether it came about or not
module _ {A T E : Type 0} (ends more_ends : List ℕ) (items more_items list : List A) where
  pub still_cut : (r : Result T E) → IsCut 0 ends (length items)
      → OnOk r (more_items ≡ items ++ list) → OnOk r (more_ends ≡ ends ++ length more_items ∷ []) → OnErr r (more_items ≡ items) → OnErr r (more_ends ≡ ends)
      → IsCut 0 more_ends (length more_items)
  still_cut (Ok u) cut i e same same_ends = rw (e, i) (IsCut-push 0 ends (length items) (length (items ++ list)) cut (omega (arith, length-append items list)))
  still_cut (Err f) cut i e same same_ends = rw (same_ends, same) cut

  pub pushed : (r : Result T E) (lists : List (List A)) → IsCut 0 ends (length items) → pieces 0 ends items ≡ lists
      → OnOk r (more_items ≡ items ++ list) → OnOk r (more_ends ≡ ends ++ length more_items ∷ []) → OnOk r (pieces 0 more_ends more_items ≡ lists ++ list ∷ [])
  pushed (Ok u) lists cut is i e = rw (e, i) (pieces-push 0 ends items list cut ∙ ap (λ (ls : List (List A)). ls ++ list ∷ []) is)
  pushed (Err f) lists cut is i e = tt

-- ---- how many members there are

length-slice_range : {A : Type 0} (start end : ℕ) (items : List A) → start ≤ end → end ≤ length items → length (slice_range items start end) + start ≡ end
length-slice_range start end items p q = omega (arith, length-take (end - start) (drop start items), length-drop start items)

pub total-pieces : {A : Type 0} (start : ℕ) (ends : List ℕ) (items : List A) → IsCut start ends (length items) → sum_by length (pieces start ends items) + start ≡ length items
total-pieces start [] items cut = omega (arith, cut)
total-pieces start (end ∷ ends) items cut =
    omega (
      arith,
      sum_by-cons length (slice_range items start end) (pieces end ends items),
      total-pieces end ends items cut.1,
      length-slice_range start end items cut.0 (cut_within end ends (length items) cut.1),
    )

-- ---- a search

pub position_is : {A : Type 0} (p : A → Bool) (xs : List A) (o : Option ℕ) → o ≡ position_from p 0 xs → o ≡ position p xs
position_is p xs o e = e ∙ sym (position_from-zero p xs)

is_found : {A : Type 0} (p : A → Bool) (i : ℕ) (xs : List A) → is_some (position_from p i xs) ≡ list_any p xs
is_found p i [] = refl
is_found p i (x ∷ xs) = elim (cases_Bool (p x)) [
  | inl here ↦ rw here refl
  | inr other ↦ rw other (is_found p (i + 1) xs)
]

pub found : {A : Type 0} (p : A → Bool) (xs : List A) → is_some (position p xs) ≡ list_any p xs
found p xs = ap is_some (position_from-zero p xs) ∙ is_found p 0 xs
