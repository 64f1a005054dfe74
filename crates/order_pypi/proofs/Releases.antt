-- How the order of two releases follows from their first numbers.
use Rattle.std.proofs.Common.{◌≡◌, ◌≢◌, ℕ, ◌+◌, ◌<◌, ◌≤◌, true, false, List, [], ◌∷◌, length, map, refl, sym, ap, ◌∙◌, arith, inl, inr}
use Rattle.std.proofs.lemmas.Bool.{and_parts, cases_Bool}
use Rattle.std.proofs.lemmas.Bool.Decides.{nat_tests}
use Rattle.std.specs.Char.{is_ascii_digit}
use Rattle.std.specs.List.{list_all, onto_first, slice_split}
use Rattle.std.specs.Ordering.{nat_cmp, ordering_then}
use Rattle.std.specs.declared.cmp.Ordering.{Ordering}
use Rattle.std.specs.declared.cmp.Ordering.TheVariants.{Equal}
use Rattle.osv_prim.specs.Digits.{behind_digits, digit_front, filled, filled_cmp, is_dot, number}
use Rattle.osv_prim.proofs.Identifiers.{then_other}
use Rattle.order_pypi.specs.Grammar.{tail}
use Rattle.order_pypi.specs.Key.{release_cmp, release_numbers}
use Rattle.order_pypi.specs.Reading.{is_release_byte}

abbrev pub AreReleaseBytes : List ℕ → Type 0
AreReleaseBytes t = list_all is_release_byte t ≡ true

no_dot : (c : ℕ) → is_ascii_digit c ≡ true → is_dot c ≡ false
no_dot c e = grind (arith, nat_tests)

dot_is : (c : ℕ) → is_ascii_digit c ≡ false → is_release_byte c ≡ true → is_dot c ≡ true
dot_is c other e = rw other at e

parts_behind : List ℕ → List (List ℕ)
parts_behind [] = []
parts_behind (c ∷ cs) = slice_split is_dot cs

split_by : (t : List ℕ) → AreReleaseBytes t → slice_split is_dot t ≡ digit_front t ∷ parts_behind (behind_digits t)
unfolding digit_front behind_digits parts_behind
split_by [] e = refl
split_by (c ∷ cs) e =
    let h = and_parts (is_release_byte c) (list_all is_release_byte cs) e in
    elim (cases_Bool (is_ascii_digit c)) [
      | inl digit ↦ let r = split_by cs h.1 in rw (digit, no_dot c digit) (ap (onto_first c) r)
      | inr other ↦ rw (other, dot_is c other h.0) refl
    ]

later : List ℕ → List ℕ
later [] = []
later (c ∷ cs) = release_numbers cs

mapped : (r : List ℕ) → map number (parts_behind r) ≡ later r
unfolding parts_behind later
mapped [] = refl
mapped (c ∷ cs) = refl

numbers_by : (t : List ℕ) → AreReleaseBytes t → release_numbers t ≡ number (digit_front t) ∷ later (behind_digits t)
numbers_by t e = ap (map number) (split_by t e) ∙ ap (λ (ns : List ℕ). number (digit_front t) ∷ ns) (mapped (behind_digits t))

-- a zero at the end changes nothing
zero_left : (zs : List ℕ) → release_cmp (0 ∷ []) zs ≡ release_cmp [] zs
unfolding filled filled_cmp
zero_left [] = refl
zero_left (z ∷ zs) = refl

zero_right : (zs : List ℕ) → release_cmp zs (0 ∷ []) ≡ release_cmp zs []
unfolding filled filled_cmp
zero_right [] = refl
zero_right (z ∷ zs) = refl

left_on : (r zs : List ℕ) → release_cmp (release_numbers (tail r)) zs ≡ release_cmp (later r) zs
unfolding number later
left_on [] zs = zero_left zs
left_on (c ∷ cs) zs = refl

right_on : (zs r : List ℕ) → release_cmp zs (release_numbers (tail r)) ≡ release_cmp zs (later r)
unfolding number later
right_on zs [] = zero_right zs
right_on zs (c ∷ cs) = refl

first_decides : (x y : ℕ) (xs ys : List ℕ) → release_cmp (x ∷ xs) (y ∷ ys) ≡ ordering_then (nat_cmp x y) (release_cmp xs ys)
unfolding filled filled_cmp
first_decides x y xs ys = refl

abbrev pub rest_of : List ℕ → List ℕ
rest_of t = tail (behind_digits t)

by_first : (a b : List ℕ) → AreReleaseBytes a → AreReleaseBytes b
    → release_cmp (release_numbers a) (release_numbers b) ≡ ordering_then (nat_cmp (number (digit_front a)) (number (digit_front b))) (release_cmp (release_numbers (rest_of a)) (release_numbers (rest_of b)))
by_first a b p q =
    ap (λ (ns : List ℕ). release_cmp ns (release_numbers b)) (numbers_by a p) ∙ ap (release_cmp (number (digit_front a) ∷ later (behind_digits a))) (numbers_by b q)
    ∙ first_decides (number (digit_front a)) (number (digit_front b)) (later (behind_digits a)) (later (behind_digits b))
    ∙ ap (ordering_then (nat_cmp (number (digit_front a)) (number (digit_front b))))
    (sym (left_on (behind_digits a) (later (behind_digits b))) ∙ sym (right_on (release_numbers (rest_of a)) (behind_digits b)))

pub decides : (a b x y : List ℕ) (r : Ordering) → AreReleaseBytes a → AreReleaseBytes b → x ≡ digit_front a → y ≡ digit_front b → r ≡ nat_cmp (number x) (number y) → r ≢ Equal → r ≡ release_cmp (release_numbers a) (release_numbers b)
decides a b x y r p q ex ey e ne =
    let w : r ≡ nat_cmp (number (digit_front a)) (number (digit_front b)) = e ∙ ap (λ (l : List ℕ). nat_cmp (number l) (number y)) ex ∙ ap (λ (l : List ℕ). nat_cmp (number (digit_front a)) (number l)) ey in
    w ∙ sym (then_other _ (release_cmp (release_numbers (rest_of a)) (release_numbers (rest_of b))) (λ t. ne (w ∙ t))) ∙ sym (by_first a b p q)

pub goes_on : (a b x y : List ℕ) (r : Ordering) → AreReleaseBytes a → AreReleaseBytes b → x ≡ digit_front a → y ≡ digit_front b → r ≡ nat_cmp (number x) (number y) → r ≡ Equal
    → release_cmp (release_numbers (rest_of a)) (release_numbers (rest_of b)) ≡ release_cmp (release_numbers a) (release_numbers b)
goes_on a b x y r p q ex ey e tie =
    let w : r ≡ nat_cmp (number (digit_front a)) (number (digit_front b)) = e ∙ ap (λ (l : List ℕ). nat_cmp (number l) (number y)) ex ∙ ap (λ (l : List ℕ). nat_cmp (number (digit_front a)) (number l)) ey in
    ap (λ (o : Ordering). ordering_then o (release_cmp (release_numbers (rest_of a)) (release_numbers (rest_of b)))) (sym tie ∙ w) ∙ sym (by_first a b p q)

pub both_used : (a b : List ℕ) → length a + length b ≡ 0 → release_cmp (release_numbers a) (release_numbers b) ≡ Equal
unfolding filled filled_cmp number
both_used [] [] h = refl
both_used (x ∷ xs) b h = absurd (omega arith)
both_used [] (y ∷ ys) h = absurd (omega arith)

pub rest_bytes : (t : List ℕ) → AreReleaseBytes t → AreReleaseBytes (rest_of t)
unfolding behind_digits
rest_bytes [] e = refl
rest_bytes (c ∷ cs) e =
    let h = and_parts (is_release_byte c) (list_all is_release_byte cs) e in
    elim (cases_Bool (is_ascii_digit c)) [
      | inl digit ↦ rw digit (rest_bytes cs h.1)
      | inr other ↦ rw other h.1
    ]

rest_no_longer : (t : List ℕ) → length (rest_of t) ≤ length t
unfolding behind_digits
rest_no_longer [] = omega arith
rest_no_longer (c ∷ cs) = elim (cases_Bool (is_ascii_digit c)) [
  | inl digit ↦ let r = rest_no_longer cs in rw digit (omega arith)
  | inr other ↦ rw other (omega arith)
]

rest_shorter : (c : ℕ) (cs : List ℕ) → length (rest_of (c ∷ cs)) < length (c ∷ cs)
unfolding behind_digits
rest_shorter c cs = elim (cases_Bool (is_ascii_digit c)) [
  | inl digit ↦ let r = rest_no_longer cs in rw digit (omega arith)
  | inr other ↦ rw other (omega arith)
]

pub shorter : (a b : List ℕ) → 0 < length a + length b → length (rest_of a) + length (rest_of b) < length a + length b
shorter [] [] h = absurd (omega arith)
shorter (x ∷ xs) b h = let l = rest_shorter x xs in let r = rest_no_longer b in omega arith
shorter [] (y ∷ ys) h = let l = rest_no_longer [] in let r = rest_shorter y ys in omega arith
