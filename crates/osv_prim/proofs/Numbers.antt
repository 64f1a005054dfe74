-- Comparing runs of digits as texts compares the numbers that they spell.
use Rattle.std.proofs.Common.{◌≡◌, ◌≢◌, ℕ, suc, ◌+◌, ◌-◌, ◌*◌, ◌^◌, ◌<◌, ◌≤◌, ◌==◌, Bool, true, false, ◌&&◌, List, [], ◌∷◌, length, refl, sym, ap, subst, ◌∙◌, arith, inl, inr}
use Rattle.std.proofs.Math.Nat.{mul-le-mul_left, pow-le-pow_right, pow-succ'}
use Rattle.std.proofs.lemmas.Bool.{and_parts, cases_Bool, eqb-true}
use Rattle.std.proofs.lemmas.Bool.Decides.{nat_tests}
use Rattle.std.specs.Char.{is_ascii_digit}
use Rattle.std.specs.Cmp.{nat_cmp_is, ranks}
use Rattle.std.specs.Cmp.Lexicographic.{slice_cmp}
use Rattle.std.specs.Ordering.{nat_cmp, ordering_then, MatchOrdering}
use Rattle.std.specs.declared.cmp.Ordering.{Ordering}
use Rattle.std.specs.declared.cmp.Ordering.TheVariants.{Less, Equal, Greater}
use Rattle.osv_prim.specs.Digits.{all_digits, number, without_zeros}

digit_is : (d : ℕ) → is_ascii_digit d ≡ true → (48 ≤ d) × (d ≤ 57)
digit_is d e = (grind (arith, nat_tests), grind (arith, nat_tests))

-- the first digit's part of the number
digit_part : (d : ℕ) (p r : ℕ) → d ≤ 57 → r < p → (d - 48) * p + r < 10 * p
digit_part d p r le lt =
    let most : d - 48 ≤ 9 = omega arith in
    let m : p * (d - 48) ≤ p * 9 = mul-le-mul_left p most in
    omega arith

pub number-below : (ds : List ℕ) → all_digits ds ≡ true → number ds < 10 ^ length ds
unfolding number
number-below [] e = omega arith
number-below (d ∷ ds) e =
    let h = and_parts (is_ascii_digit d) (all_digits ds) e in
    let r = number-below ds h.1 in
    rw (pow-succ' 10 (length ds)) (digit_part d (10 ^ length ds) (number ds) (digit_is d h.0).1 r)

pub number-without_zeros : (ds : List ℕ) → number (without_zeros ds) ≡ number ds
unfolding number without_zeros
number-without_zeros [] = refl
number-without_zeros (d ∷ ds) = elim (cases_Bool (d == 48)) [
  | inl zero ↦ let is : d ≡ 48 = eqb-true d 48 zero in rw (is) (number-without_zeros ds ∙ omega arith)
  | inr other ↦ rw other refl
]

pub digits-without_zeros : (ds : List ℕ) → all_digits ds ≡ true → all_digits (without_zeros ds) ≡ true
unfolding without_zeros
digits-without_zeros [] e = refl
digits-without_zeros (d ∷ ds) e = elim (cases_Bool (d == 48)) [
  | inl zero ↦ rw zero (digits-without_zeros ds (and_parts (is_ascii_digit d) (all_digits ds) e).1)
  | inr other ↦ rw other e
]

-- a run that no zero leads is no less than the power of ten below its length
abbrev IsLed : List ℕ → Type 0
IsLed [] = Unit {0}
IsLed (d ∷ ds) = 10 ^ length ds ≤ number (d ∷ ds)

led_by : (d p r : ℕ) → 48 ≤ d → d ≢ 48 → p ≤ (d - 48) * p + r
led_by d p r le ne =
    let least : 1 ≤ d - 48 = omega arith in
    let m : p * 1 ≤ p * (d - 48) = mul-le-mul_left p least in
    omega arith

is_led : (ds : List ℕ) → all_digits ds ≡ true → IsLed (without_zeros ds)
unfolding number without_zeros
is_led [] e = tt
is_led (d ∷ ds) e = elim (cases_Bool (d == 48)) [
  | inl zero ↦ rw zero (is_led ds (and_parts (is_ascii_digit d) (all_digits ds) e).1)
  | inr other ↦
      let ne : d ≢ 48 = grind (arith, nat_tests) in
      rw other (led_by d (10 ^ length ds) (number ds) (digit_is d (and_parts (is_ascii_digit d) (all_digits ds) e).0).0 ne)
]

-- of two runs that no zero leads the longer is greater
longer : (xs ys : List ℕ) → all_digits xs ≡ true → IsLed ys → length xs < length ys → number xs < number ys
longer xs [] e l lt = absurd (omega arith)
longer xs (y ∷ ys) e l lt =
    let below = number-below xs e in
    let more : 10 ^ length xs ≤ 10 ^ length ys = pow-le-pow_right {n = 10} (omega arith) (omega arith) in
    omega (arith, below, more, l)

above : (x y p r s : ℕ) → 48 ≤ x → x < y → r < p → (x - 48) * p + r < (y - 48) * p + s
above x y p r s le lt below =
    let more : suc (x - 48) ≤ y - 48 = omega arith in
    let m : p * suc (x - 48) ≤ p * (y - 48) = mul-le-mul_left p more in
    omega arith

first_digits : (x y p r s : ℕ) (o rest : Ordering) → MatchOrdering o (x < y) (x ≡ y) (y < x) → 48 ≤ x → 48 ≤ y → r < p → s < p → MatchOrdering rest (r < s) (r ≡ s) (s < r)
    → MatchOrdering (ordering_then o rest) ((x - 48) * p + r < (y - 48) * p + s) ((x - 48) * p + r ≡ (y - 48) * p + s) ((y - 48) * p + s < (x - 48) * p + r)
first_digits x y p r s Less rest h lx ly br bs k = above x y p r s lx h br
first_digits x y p r s Equal Less h lx ly br bs k = rw h (omega (arith, k))
first_digits x y p r s Equal Equal h lx ly br bs k = rw (h, k) refl
first_digits x y p r s Equal Greater h lx ly br bs k = rw h (omega (arith, k))
first_digits x y p r s Greater rest h lx ly br bs k = above y x p s r ly h bs

-- runs of one length compare by their bytes
same_length : (xs ys : List ℕ) → all_digits xs ≡ true → all_digits ys ≡ true → length xs ≡ length ys → MatchOrdering (slice_cmp nat_cmp xs ys) (number xs < number ys) (number xs ≡ number ys) (number ys < number xs)
unfolding number
same_length [] [] ex ey l = refl
same_length [] (y ∷ ys) ex ey l = absurd (omega arith)
same_length (x ∷ xs) [] ex ey l = absurd (omega arith)
same_length (x ∷ xs) (y ∷ ys) ex ey l =
    let hx = and_parts (is_ascii_digit x) (all_digits xs) ex in
    let hy = and_parts (is_ascii_digit y) (all_digits ys) ey in
    let same : length ys ≡ length xs = omega arith in
    let by : number ys < 10 ^ length xs = subst (λ (n : ℕ). number ys < 10 ^ n) same (number-below ys hy.1) in
    let rest = same_length xs ys hx.1 hy.1 (sym same) in
    rw same (first_digits x y (10 ^ length xs) (number xs) (number ys) (nat_cmp x y) (slice_cmp nat_cmp xs ys) (ranks x y) (digit_is x hx.0).0 (digit_is y hy.0).0 (number-below xs hx.1) by rest)

by_length : (xs ys : List ℕ) (o : Ordering) → MatchOrdering o (length xs < length ys) (length xs ≡ length ys) (length ys < length xs) → all_digits xs ≡ true → all_digits ys ≡ true → IsLed xs → IsLed ys
    → MatchOrdering (ordering_then o (slice_cmp nat_cmp xs ys)) (number xs < number ys) (number xs ≡ number ys) (number ys < number xs)
by_length xs ys Less h ex ey lx ly = longer xs ys ex ly h
by_length xs ys Equal h ex ey lx ly = same_length xs ys ex ey h
by_length xs ys Greater h ex ey lx ly = longer ys xs ey lx h

pub compared : (xs ys : List ℕ) → all_digits xs ≡ true → all_digits ys ≡ true
    → ordering_then (nat_cmp (length (without_zeros xs)) (length (without_zeros ys))) (slice_cmp nat_cmp (without_zeros xs) (without_zeros ys)) ≡ nat_cmp (number xs) (number ys)
compared xs ys ex ey =
    let a = without_zeros xs in
    let b = without_zeros ys in
    nat_cmp_is (number a) (number b) _ (by_length a b (nat_cmp (length a) (length b)) (ranks (length a) (length b)) (digits-without_zeros xs ex) (digits-without_zeros ys ey) (is_led xs ex) (is_led ys ey))
    ∙ ap (λ (n : ℕ). nat_cmp n (number b)) (number-without_zeros xs) ∙ ap (λ (n : ℕ). nat_cmp (number xs) n) (number-without_zeros ys)
