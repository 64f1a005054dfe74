-- The indexes of the advisories that pass a test.
use Rattle.std.proofs.Common.{◌≡◌, ℕ, suc, ◌+◌, ◌<◌, Bool, true, false, cond, ◌&&◌, ◌||◌, eqb, List, [], ◌∷◌, ◌++◌, length, take, Some, Less, refl, sym, ap, ◌∙◌, arith}
use Rattle.std.specs.Prelude.{filter, slice_get}
use Rattle.std.specs.List.{list_any}
use Rattle.std.specs.List.Sorted.{IsStrictlySortedBy}
use Rattle.std.specs.Ordering.{nat_cmp}
use Rattle.std.proofs.lemmas.Bool.{eqb-true}
use Rattle.std.proofs.lemmas.List.{length-take}
use Rattle.std.proofs.lemmas.List.Folds.{list_any-append}
use Rattle.osv_record.specs.Advisories.{Advisory}
use Rattle.package_index.proofs.Rising.{has, less, AllAbove}
use Rattle.repo_index.specs.Listing.{passes_from, indexes_from}
use Rattle.repo_index.proofs.Zipped.{take-next, within}

-- ---- the indexes ascend

module _ (test : Advisory → Bool) where
  one-above : (a n : ℕ) (b : Bool) (xs : List ℕ) → a < n → AllAbove a xs → AllAbove a (cond b (n ∷ []) [] ++ xs)
  one-above a n true xs lt all = (less a n lt, all)
  one-above a n false xs lt all = all

  indexes-above : (a n : ℕ) (rs : List Advisory) → a < n → AllAbove a (indexes_from test n rs)
  indexes-above a n [] lt = tt
  indexes-above a n (r ∷ rs) lt = one-above a n (test r) (indexes_from test (n + 1) rs) lt (indexes-above a (n + 1) rs (omega (arith, lt)))

  one-rising : (n : ℕ) (b : Bool) (xs : List ℕ) → AllAbove n xs → IsStrictlySortedBy nat_cmp xs → IsStrictlySortedBy nat_cmp (cond b (n ∷ []) [] ++ xs)
  unfolding IsStrictlySortedBy
  one-rising n true xs all up = (all, up)
  one-rising n false xs all up = up

  pub indexes-rising : (n : ℕ) (rs : List Advisory) → IsStrictlySortedBy nat_cmp (indexes_from test n rs)
  unfolding IsStrictlySortedBy
  indexes-rising n [] = tt
  indexes-rising n (r ∷ rs) = one-rising n (test r) (indexes_from test (n + 1) rs) (indexes-above n (n + 1) rs (omega arith)) (indexes-rising (n + 1) rs)

  -- ---- their members

  or_no : (a : Bool) → (a || false) ≡ a
  or_no true = refl
  or_no false = refl

  has-one : (b : Bool) (k i : ℕ) → has (cond b (k ∷ []) []) i ≡ (b && eqb k i)
  has-one true k i = or_no (eqb k i)
  has-one false k i = refl

  pub has-passes : (n : ℕ) (rs : List Advisory) (i : ℕ) → has (indexes_from test n rs) i ≡ passes_from test n rs i
  has-passes n [] i = refl
  has-passes n (r ∷ rs) i =
      list_any-append (λ x. eqb x i) (cond (test r) (n ∷ []) []) (indexes_from test (n + 1) rs)
      ∙ ap (λ (b : Bool). b || has (indexes_from test (n + 1) rs) i) (has-one (test r) n i)
      ∙ ap (λ (b : Bool). (test r && eqb n i) || b) (has-passes (n + 1) rs i)

  or_parts : (a b c : Bool) → (a || (b || c)) ≡ ((a || b) || c)
  or_parts true b c = refl
  or_parts false b c = refl

  passes-push : (n : ℕ) (rs : List Advisory) (r : Advisory) (i : ℕ) → passes_from test n (rs ++ r ∷ []) i ≡ (passes_from test n rs i || (test r && eqb (n + length rs) i))
  passes-push n [] r i =
      let same : n ≡ n + 0 = omega arith in
      or_no (test r && eqb n i) ∙ ap (λ (k : ℕ). test r && eqb k i) same
  passes-push n (q ∷ rs) r i =
      let same : n + 1 + length rs ≡ n + suc (length rs) = omega arith in
      ap (λ (b : Bool). (test q && eqb n i) || b) (passes-push (n + 1) rs r i ∙ ap (λ (k : ℕ). passes_from test (n + 1) rs i || (test r && eqb k i)) same)
      ∙ or_parts (test q && eqb n i) (passes_from test (n + 1) rs i) (test r && eqb (n + suc (length rs)) i)

  -- an advisory more
  pub passes-more : (rs : List Advisory) (k : ℕ) (r : Advisory) → slice_get rs k ≡ Some r → (i : ℕ) → passes_from test 0 (take (k + 1) rs) i ≡ (passes_from test 0 (take k rs) i || (test r && eqb k i))
  passes-more rs k r at i =
      let long : 0 + length (take k rs) ≡ k = omega (arith, length-take k rs, within rs k r at) in
      ap (λ (xs : List Advisory). passes_from test 0 xs i) (take-next rs k r at) ∙ passes-push 0 (take k rs) r i ∙ ap (λ (n : ℕ). passes_from test 0 (take k rs) i || (test r && eqb n i)) long

-- ---- some that ascend

cond-above : (a x : ℕ) (b : Bool) (xs : List ℕ) → nat_cmp a x ≡ Less → AllAbove a xs → AllAbove a (cond b (x ∷ xs) xs)
cond-above a x true xs lt all = (lt, all)
cond-above a x false xs lt all = all

filter-above : (q : ℕ → Bool) (a : ℕ) (xs : List ℕ) → AllAbove a xs → AllAbove a (filter q xs)
filter-above q a [] all = tt
filter-above q a (x ∷ xs) all = cond-above a x (q x) (filter q xs) all.0 (filter-above q a xs all.1)

cond-rising : (x : ℕ) (b : Bool) (xs : List ℕ) → AllAbove x xs → IsStrictlySortedBy nat_cmp xs → IsStrictlySortedBy nat_cmp (cond b (x ∷ xs) xs)
unfolding IsStrictlySortedBy
cond-rising x true xs all up = (all, up)
cond-rising x false xs all up = up

pub filter-rising : (q : ℕ → Bool) (xs : List ℕ) → IsStrictlySortedBy nat_cmp xs → IsStrictlySortedBy nat_cmp (filter q xs)
unfolding IsStrictlySortedBy
filter-rising q [] up = tt
filter-rising q (x ∷ xs) up = cond-rising x (q x) (filter q xs) (filter-above q x xs up.0) (filter-rising q xs up.1)

and-no : (b : Bool) → (b && false) ≡ false
and-no true = refl
and-no false = refl

one-more : (b e h : Bool) → ((b && e) || (b && h)) ≡ (b && (e || h))
one-more true e h = refl
one-more false e h = refl

cond-has : (b : Bool) (x : ℕ) (xs : List ℕ) (i : ℕ) → has (cond b (x ∷ xs) xs) i ≡ ((b && eqb x i) || has xs i)
cond-has true x xs i = refl
cond-has false x xs i = refl

-- a test of a number is one of an equal number
moved : (q : ℕ → Bool) (x i : ℕ) (e : Bool) → eqb x i ≡ e → (q x && e) ≡ (q i && e)
moved q x i true is = ap (λ (k : ℕ). q k && true) (eqb-true x i is)
moved q x i false is = and-no (q x) ∙ sym (and-no (q i))

pub has-filter : (q : ℕ → Bool) (xs : List ℕ) (i : ℕ) → has (filter q xs) i ≡ (q i && has xs i)
has-filter q [] i = sym (and-no (q i))
has-filter q (x ∷ xs) i =
    cond-has (q x) x (filter q xs) i
    ∙ ap (λ (b : Bool). b || has (filter q xs) i) (moved q x i (eqb x i) refl)
    ∙ ap (λ (b : Bool). (q i && eqb x i) || b) (has-filter q xs i)
    ∙ one-more (q i) (eqb x i) (has xs i)

-- ---- one of some tests

passes-never : (n : ℕ) (rs : List Advisory) (i : ℕ) → passes_from (λ r. false) n rs i ≡ false
passes-never n [] i = refl
passes-never n (r ∷ rs) i = passes-never (n + 1) rs i

four : (a b c d e : Bool) → ((a && c) || d) || ((b && c) || e) ≡ (((a || b) && c) || (d || e))
four true true true d e = refl
four true true false d e = refl
four true false true d e = refl
four true false false d e = refl
four false true true true e = refl
four false true true false e = refl
four false true false d e = refl
four false false c d e = refl

passes-either : (f g : Advisory → Bool) (n : ℕ) (rs : List Advisory) (i : ℕ) → (passes_from f n rs i || passes_from g n rs i) ≡ passes_from (λ r. f r || g r) n rs i
passes-either f g n [] i = refl
passes-either f g n (r ∷ rs) i =
    four (f r) (g r) (eqb n i) (passes_from f (n + 1) rs i) (passes_from g (n + 1) rs i)
    ∙ ap (λ (b : Bool). ((f r || g r) && eqb n i) || b) (passes-either f g (n + 1) rs i)

pub passes-any : {X : Type 0} (f : X → Advisory → Bool) (xs : List X) (rs : List Advisory) (i : ℕ) → list_any (λ x. passes_from (f x) 0 rs i) xs ≡ passes_from (λ r. list_any (λ x. f x r) xs) 0 rs i
passes-any f [] rs i = sym (passes-never 0 rs i)
passes-any f (x ∷ xs) rs i = ap (λ (b : Bool). passes_from (f x) 0 rs i || b) (passes-any f xs rs i) ∙ passes-either (f x) (λ r. list_any (λ x. f x r) xs) 0 rs i

pub passes-same : (f g : Advisory → Bool) → ((r : Advisory) → f r ≡ g r) → (n : ℕ) (rs : List Advisory) (i : ℕ) → passes_from f n rs i ≡ passes_from g n rs i
passes-same f g same n [] i = refl
passes-same f g same n (r ∷ rs) i =
    ap (λ (b : Bool). (b && eqb n i) || passes_from f (n + 1) rs i) (same r) ∙ ap (λ (b : Bool). (g r && eqb n i) || b) (passes-same f g same (n + 1) rs i)

-- ---- equal numbers pass one test

pub alike : (i x y : ℕ) → eqb x y ≡ true → eqb x i ≡ eqb y i
alike i x y same = ap (λ (k : ℕ). eqb k i) (eqb-true x y same)
