-- The number that digits spell, one digit after another.
use Rattle.std.proofs.Common.{◌≡◌, ℕ, zero, suc, ◌+◌, ◌-◌, ◌*◌, ◌^◌, ◌<◌, ◌≤◌, List, [], ◌∷◌, length, get_or, Some, None, refl, sym, ap, ◌∙◌, arith, inl, inr}
use Rattle.std.proofs.Math.Nat.{pow-succ'}
use Rattle.std.proofs.lemmas.Bool.{cases_lt, lt-ltb, le-ltb}
use Rattle.osv_prim.specs.Digits.{number}
use Rattle.osv_prim.specs.Numerals.{fits}

-- the number that digits spell behind the digits of n
abbrev pub spelled : ℕ → List ℕ → ℕ
spelled n [] = n
spelled n (c ∷ cs) = spelled (n * 10 + (c - 48)) cs

one_more : (n d p r : ℕ) → (n * 10 + d) * p + r ≡ n * (10 * p) + (d * p + r)
one_more n d p r = omega arith

spelled_is : (n : ℕ) (cs : List ℕ) → spelled n cs ≡ n * 10 ^ length cs + number cs
unfolding number
spelled_is n [] = omega arith
spelled_is n (c ∷ cs) =
    spelled_is (n * 10 + (c - 48)) cs
    ∙ one_more n (c - 48) (10 ^ length cs) (number cs)
    ∙ ap (λ (p : ℕ). n * p + ((c - 48) * 10 ^ length cs + number cs)) (sym (pow-succ' 10 (length cs)))

from_none : (digits : List ℕ) → spelled 0 digits ≡ number digits
from_none digits = spelled_is 0 digits ∙ omega arith

grows : (n : ℕ) (cs : List ℕ) → n ≤ spelled n cs
grows n [] = omega arith
grows n (c ∷ cs) = omega (arith, grows (n * 10 + (c - 48)) cs)

some_fits : (n : ℕ) → n < 2 ^ 64 → fits n ≡ Some n
some_fits n lt = rw (lt-ltb n (2 ^ 64) lt) refl

none_fits : (n : ℕ) → 2 ^ 64 ≤ n → fits n ≡ None
none_fits n le = rw (le-ltb n (2 ^ 64) le) refl

larger : (n m : ℕ) → n ≤ m → None ≡ fits n → fits m ≡ None
larger n m le e =
    elim (cases_lt n (2 ^ 64)) [
      | inl lt ↦ absurd (cc (e, some_fits n lt))
      | inr ge ↦ none_fits m (omega arith)
    ]

pub too_large : (n : ℕ) (rest digits : List ℕ) → 1 ≤ length rest → spelled n rest ≡ spelled 0 digits → None ≡ fits (n * 10 + (get_or rest 0 0 - 48)) → None ≡ fits (number digits)
too_large n [] digits le so_far e = absurd (omega arith)
too_large n (c ∷ cs) digits le so_far e =
    sym (larger (n * 10 + (c - 48)) (number digits) (omega (arith, so_far, from_none digits, grows (n * 10 + (c - 48)) cs)) e)

pub is_value : (n : ℕ) (rest digits : List ℕ) → n < 2 ^ 64 → length rest < 1 → spelled n rest ≡ spelled 0 digits → Some n ≡ fits (number digits)
is_value n [] digits lt none e = sym (ap fits (sym (e ∙ from_none digits)) ∙ some_fits n lt)
is_value n (c ∷ cs) digits lt none e = absurd (omega arith)
