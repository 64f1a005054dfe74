-- The forms of advisories in parts that stay, and in one more.
use Rattle.std.proofs.Common.{◌≡◌, ℕ, zero, suc, ◌<◌, inl, inr, Option, Some, None, List, [], ◌∷◌, ◌++◌, length, map, take, get_or, refl, sym, ap, subst, ◌∙◌, arith}
use Rattle.std.specs.Prelude.{IfSome, slice_get}
use Rattle.std.specs.List.{AllZip}
use Rattle.std.proofs.lemmas.List.{length-take, get_or-take, get_or_append_left, get_or_at}
use Rattle.std.proofs.lemmas.Option.{same_Some, get_or_from_slice_get}
use Rattle.osv_record.specs.Advisories.{Advisory}
use Rattle.range_hits.specs.Forms.{AreFormsOf}
use Rattle.range_hits.proofs.Parting.{zip-both}
use Rattle.record_moves.proofs.Steps.{get-before, get-within, get-at}
use Rattle.form_index.specs.Index.{Forms, Part, AreIndexed, AreKept, ArePlaced, IsIn, IsKept, IsMade, IsPlaced, form_at, forms_of}

-- ---- members of two lists at one place

module _ {A B : Type 0} (R : A → B → Type 0) where
  pub zip-at : (xs : List A) (ys : List B) (i : ℕ) (x : A) (d : B) → AllZip R xs ys → slice_get xs i ≡ Some x → R x (get_or ys i d)
  zip-at [] ys i x d all at = absurd cc
  zip-at (a ∷ xs) [] i x d all at = absurd all
  zip-at (a ∷ xs) (b ∷ ys) zero x d all at = subst (λ (z : A). R z b) (same_Some a x at) all.0
  zip-at (a ∷ xs) (b ∷ ys) (suc i) x d all at = zip-at xs ys i x d all.1 at

  zip-weaker : (S : A → B → Type 0) → ((x : A) (y : B) → R x y → S x y) → (xs : List A) (ys : List B) → AllZip R xs ys → AllZip S xs ys
  zip-weaker S one [] [] all = all
  zip-weaker S one [] (y ∷ ys) all = absurd all
  zip-weaker S one (x ∷ xs) [] all = absurd all
  zip-weaker S one (x ∷ xs) (y ∷ ys) all = (one x y all.0, zip-weaker S one xs ys all.1)

-- the forms of a place that is there, and of one that isn't
pub at-place : {X Y : Type 0} (see : X → Y) (xs : List X) (i : ℕ) (x : X) (d : Y) → slice_get xs i ≡ Some x → get_or (map see xs) i d ≡ see x
at-place see [] i x d at = absurd cc
at-place see (y ∷ xs) zero x d at = ap see (same_Some y x at)
at-place see (y ∷ xs) (suc i) x d at = at-place see xs i x d at

pub none-at-place : {X Y : Type 0} (see : X → Y) (xs : List X) (i : ℕ) (d : Y) → slice_get xs i ≡ None → get_or (map see xs) i d ≡ d
none-at-place see [] i d at = refl
none-at-place see (y ∷ xs) zero d at = absurd cc
none-at-place see (y ∷ xs) (suc i) d at = none-at-place see xs i d at

pub none-at : {X : Type 0} (xs : List X) (i : ℕ) (d : X) → slice_get xs i ≡ None → get_or xs i d ≡ d
none-at [] i d at = refl
none-at (y ∷ xs) zero d at = absurd cc
none-at (y ∷ xs) (suc i) d at = none-at xs i d at

-- ---- parts that stay

-- a place that is kept is in them, where its part is
pub kept-in : (parts : List Part) (old : List Advisory) (places : List (ℕ × ℕ)) (i n : ℕ) (r : Advisory) (o : Option (ℕ × ℕ)) → n ≡ length parts → AreKept parts old places → slice_get old i ≡ Some r
    → IfSome o (λ at. slice_get places i ≡ Some at) → IfSome o (λ at. at.0 < n) → IfSome o (IsIn parts r)
kept-in parts old places i n r None is kept own there lt = tt
kept-in parts old places i n r (Some at) is kept own there lt =
    let low : at.0 < length parts = omega (arith, lt, is) in
    (low, subst (IsKept parts r) (get_or_from_slice_get places i at at there) (zip-at (IsKept parts) old places i r at kept own) low)

pub kept-first : (n : ℕ) (parts : List Part) (rs : List Advisory) (places : List (ℕ × ℕ)) → AreIndexed rs (forms_of parts places) → AreKept (take n parts) rs places
kept-first n parts [] [] all = all
kept-first n parts [] (at ∷ places) all = absurd all
kept-first n parts (r ∷ rs) [] all = absurd all
kept-first n parts (r ∷ rs) (at ∷ places) all = (first, kept-first n parts rs places all.1)
  where
    first : IsKept (take n parts) r at
    first lt =
        let low : at.0 < n = omega (arith, lt, length-take n parts) in
        subst (AreFormsOf r) (sym (ap (λ (part : Part). get_or part at.1 []) (get_or-take n parts at.0 [] low))) all.0

-- ---- one advisory more

pub placed-kept : (parts : List Part) (made : Part) (rs : List Advisory) (r : Advisory) (places : List (ℕ × ℕ)) (at : ℕ × ℕ) → ArePlaced parts made rs places → IsIn parts r at → ArePlaced parts made (rs ++ r ∷ []) (places ++ at ∷ [])
placed-kept parts made rs r places at before here = zip-both (IsPlaced parts made) rs (r ∷ []) places (at ∷ []) before (inl here, tt)

pub placed-new : (parts : List Part) (made : Part) (rs : List Advisory) (r : Advisory) (places : List (ℕ × ℕ)) (forms : Forms) (part place : ℕ) → ArePlaced parts made rs places → AreFormsOf r forms → part ≡ length parts → place ≡ length made
    → ArePlaced parts (made ++ forms ∷ []) (rs ++ r ∷ []) (places ++ (part, place) ∷ [])
placed-new parts made rs r places forms part place before are last behind =
    zip-both (IsPlaced parts (made ++ forms ∷ [])) rs (r ∷ []) places ((part, place) ∷ []) (zip-weaker (IsPlaced parts made) (IsPlaced parts (made ++ forms ∷ [])) more rs places before) (inr here, tt)
  where
    here : IsMade parts (made ++ forms ∷ []) r (part, place)
    here = record { part = last; forms = forms; there = ap (slice_get (made ++ forms ∷ [])) behind ∙ get-at made forms; are = are }

    more : (x : Advisory) (at : ℕ × ℕ) → IsPlaced parts made x at → IsPlaced parts (made ++ forms ∷ []) x at
    more x at is =
        elim is [
          | inl old ↦ inl old
          | inr new ↦
              inr
              (record {
                part = new.part;
                forms = new.forms;
                there = get-before made (forms ∷ []) at.1 (get-within made at.1 new.forms new.there) ∙ new.there;
                are = new.are;
              })
        ]

-- ---- all of them

placed-one : (parts : List Part) (made : Part) (r : Advisory) (at : ℕ × ℕ) → IsPlaced parts made r at → AreFormsOf r (form_at (parts ++ made ∷ []) at)
placed-one parts made r at is =
    elim is [
      | inl old ↦ subst (AreFormsOf r) (sym (ap (λ (part : Part). get_or part at.1 []) (get_or_append_left parts (made ∷ []) [] at.0 old.0))) old.1
      | inr new ↦
          let last : get_or (parts ++ made ∷ []) at.0 [] ≡ made = get_or_at parts made [] [] at.0 (sym new.part) in
          subst (AreFormsOf r) (sym (ap (λ (part : Part). get_or part at.1 []) last ∙ get_or_from_slice_get made at.1 new.forms [] new.there)) new.are
    ]

pub all-placed : (parts : List Part) (made : Part) (rs : List Advisory) (places : List (ℕ × ℕ)) → ArePlaced parts made rs places → AreIndexed rs (forms_of (parts ++ made ∷ []) places)
all-placed parts made [] [] all = all
all-placed parts made [] (at ∷ places) all = absurd all
all-placed parts made (r ∷ rs) [] all = absurd all
all-placed parts made (r ∷ rs) (at ∷ places) all = (placed-one parts made r at all.0, all-placed parts made rs places all.1)
