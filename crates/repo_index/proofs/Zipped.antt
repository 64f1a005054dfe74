-- Members of two lists at one place.
use Rattle.std.proofs.Common.{◌≡◌, ℕ, zero, suc, ◌+◌, ◌<◌, ◌≤◌, length, map, get_or, take, arith, List, [], ◌∷◌, ◌++◌, Option, Some, None, refl, sym, ap, subst, ◌∙◌}
use Rattle.std.specs.Prelude.{IfSome, option_map, slice_get}
use Rattle.std.specs.List.{AllZip}

module _ {A B : Type 0} (R : A → B → Type 0) where
  pub at-both : (xs : List A) (ys : List B) (i : ℕ) (x : A) (y : B) → AllZip R xs ys → slice_get xs i ≡ Some x → slice_get ys i ≡ Some y → R x y
  at-both [] ys i x y all first second = absurd cc
  at-both (a ∷ xs) [] i x y all first second = absurd all
  at-both (a ∷ xs) (b ∷ ys) zero x y all first second = subst (λ (z : A). R z y) (some a x first) (subst (R a) (some b y second) all.0)
    where
      some : {X : Type 0} (x y : X) → Some x ≡ Some y → x ≡ y
      some x y e = cc
  at-both (a ∷ xs) (b ∷ ys) (suc i) x y all first second = at-both xs ys i x y all.1 first second

  pub none-at : (xs : List A) (ys : List B) (i : ℕ) (x : A) → AllZip R xs ys → slice_get xs i ≡ Some x → slice_get ys i ≡ None → ⊥
  none-at [] ys i x all first second = absurd cc
  none-at (a ∷ xs) [] i x all first second = all
  none-at (a ∷ xs) (b ∷ ys) zero x all first second = cc
  none-at (a ∷ xs) (b ∷ ys) (suc i) x all first second = none-at xs ys i x all.1 first second

  -- the member of the second list, where it is there
  pub some-both : {V : Type 0} (see : V → B) (xs : List A) (ys : List B) (i : ℕ) (x : A) (o : Option V) → AllZip R xs ys → slice_get xs i ≡ Some x → option_map see o ≡ slice_get ys i → IfSome o (λ v. R x (see v))
  some-both see xs ys i x None all at same = tt
  some-both see xs ys i x (Some v) all at same = at-both xs ys i x (see v) all at (sym same)

  pub zip-weaker : (S : A → B → Type 0) → ((x : A) (y : B) → R x y → S x y) → (xs : List A) (ys : List B) → AllZip R xs ys → AllZip S xs ys
  zip-weaker S f [] [] all = tt
  zip-weaker S f [] (b ∷ ys) all = absurd all
  zip-weaker S f (a ∷ xs) [] all = absurd all
  zip-weaker S f (a ∷ xs) (b ∷ ys) all = (f a b all.0, zip-weaker S f xs ys all.1)

  -- what stands at the place of a member of the second list
  pub partner : (xs : List A) (ys : List B) (i : ℕ) (y : B) → AllZip R xs ys → slice_get ys i ≡ Some y → (x : A) × ((slice_get xs i ≡ Some x) × R x y)
  partner [] [] i y all at = absurd cc
  partner [] (b ∷ ys) i y all at = absurd all
  partner (a ∷ xs) [] i y all at = absurd all
  partner (a ∷ xs) (b ∷ ys) zero y all at = (a, (refl, subst (R a) (some b y at) all.0))
    where
      some : (x y : B) → Some x ≡ Some y → x ≡ y
      some x y e = cc
  partner (a ∷ xs) (b ∷ ys) (suc i) y all at = partner xs ys i y all.1 at

-- a member by its place
pub there : {X : Type 0} (xs : List X) (i : ℕ) (x : X) → i < length xs → x ≡ get_or xs i x → slice_get xs i ≡ Some x
there [] i x lt is = absurd (omega (arith, lt))
there (y ∷ xs) zero x lt is = ap Some (sym is)
there (y ∷ xs) (suc i) x lt is = there xs i x (omega (arith, lt)) is

pub within : {X : Type 0} (xs : List X) (i : ℕ) (x : X) → slice_get xs i ≡ Some x → i < length xs
within [] i x at = absurd cc
within (y ∷ xs) zero x at = omega arith
within (y ∷ xs) (suc i) x at = omega (arith, within xs i x at)

pub take-next : {X : Type 0} (xs : List X) (i : ℕ) (x : X) → slice_get xs i ≡ Some x → take (i + 1) xs ≡ take i xs ++ x ∷ []
take-next [] i x at = absurd cc
take-next (y ∷ xs) zero x at = ap (λ (z : _). z ∷ []) (some y x at)
  where
    some : {X : Type 0} (x y : X) → Some x ≡ Some y → x ≡ y
    some x y e = cc
take-next {X} (y ∷ xs) (suc i) x at =
    let more : suc i + 1 ≡ suc (i + 1) = omega arith in
    ap (λ (n : ℕ). take n (y ∷ xs)) more ∙ ap (λ (zs : List X). y ∷ zs) (take-next xs i x at)

-- the same of what stands for it
pub there-seen : {X Y : Type 0} (see : X → Y) (xs : List X) (i : ℕ) (x : X) → i < length xs → x ≡ get_or xs i x → slice_get (map see xs) i ≡ Some (see x)
there-seen see [] i x lt is = absurd (omega (arith, lt))
there-seen see (y ∷ xs) zero x lt is = ap Some (ap see (sym is))
there-seen see (y ∷ xs) (suc i) x lt is = there-seen see xs i x (omega (arith, lt)) is

pub one-item : {X : Type 0} (xs : List X) (x : X) → 1 ≤ length xs → length xs < 2 → x ≡ get_or xs 0 x → xs ≡ x ∷ []
one-item [] x low high is = absurd (omega (arith, low))
one-item (y ∷ []) x low high is = ap (λ (z : _). z ∷ []) (sym is)
one-item (y ∷ z ∷ xs) x low high is = absurd (omega (arith, high))
