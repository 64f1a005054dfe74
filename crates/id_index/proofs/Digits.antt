-- The digits of a head.
use Rattle.std.proofs.Common.{◌≡◌, ◌⊎◌, inl, inr, ℕ, zero, suc, ◌+◌, ◌*◌, ◌-◌, ◌^◌, ◌<◌, ◌≤◌, List, [], ◌∷◌, Less, Bool, true, false, nat_lt, refl, subst, arith}
use Rattle.std.proofs.lemmas.Bool.Decides.{nat_tests}
use Rattle.std.proofs.Math.Nat.{pow-succ', mul-le-mul_left}
use Rattle.evaluate.proofs.Ascending.{by_id}
use Rattle.id_index.specs.Heads.{first_byte, behind, head_from, BeginsWithBytes}

-- ---- a round of the loop

pub one_digit : (digits n : ℕ) (text : List ℕ) → 0 < n → head_from digits n text ≡ head_from (digits * 256 + first_byte text) (n - 1) (behind text)
one_digit digits zero text lt = absurd (omega arith)
one_digit digits (suc n) text lt = let e : suc n - 1 ≡ n = omega arith in rw e refl

pub one_byte : (n : ℕ) (text : List ℕ) → 0 < n → first_byte text < 256 → BeginsWithBytes (n - 1) (behind text) → BeginsWithBytes n text
one_byte zero text lt b rest = tt
one_byte (suc n) text lt b rest =
    let e : suc n - 1 ≡ n = omega arith in
    (b, subst (λ (k : ℕ). BeginsWithBytes k (behind text)) e rest)

-- so many digits have room
abbrev pub HasRoom : ℕ → ℕ → Type 0
HasRoom digits n = (digits + 1) * 256 ^ n ≤ 2 ^ 128

some_power : (n : ℕ) → 1 ≤ 256 ^ n
some_power zero = omega arith
some_power (suc n) = rw (pow-succ' 256 n) (omega (arith, some_power n))

more_room : (digits b p q : ℕ) → b < 256 → q ≡ 256 * p → (digits + 1) * q ≤ 2 ^ 128 → (digits * 256 + b + 1) * p ≤ 2 ^ 128
more_room digits b p q lt e room =
    let most : p * (digits * 256 + b + 1) ≤ p * (digits * 256 + 256) = mul-le-mul_left p (omega arith) in
    let whole : (digits + 1) * q ≡ p * (digits * 256 + 256) = rw e (grind arith) in
    omega arith

pub room-goes_on : (digits b n : ℕ) → 0 < n → b < 256 → HasRoom digits n → HasRoom (digits * 256 + b) (n - 1)
room-goes_on digits b zero lt less room = absurd (omega arith)
room-goes_on digits b (suc n) lt less room =
    let e : suc n - 1 ≡ n = omega arith in
    rw e (more_room digits b (256 ^ n) (256 ^ suc n) less (pow-succ' 256 n) room)

pub fits : (digits n : ℕ) → HasRoom digits n → digits < 2 ^ 128
fits digits n room =
    let least : (digits + 1) * 1 ≤ (digits + 1) * 256 ^ n = mul-le-mul_left (digits + 1) (some_power n) in
    omega arith

-- ---- heads beside ids

by_first : (a b : List ℕ) → first_byte a < first_byte b → by_id a b ≡ Less
by_first [] [] lt = absurd (omega arith)
by_first [] (d ∷ b) lt = refl
by_first (c ∷ a) [] lt = absurd (omega arith)
by_first (c ∷ a) (d ∷ b) lt = grind (arith)

by_later : (a b : List ℕ) → first_byte a ≡ first_byte b → by_id (behind a) (behind b) ≡ Less → by_id a b ≡ Less
by_later [] [] e lt = absurd cc
by_later [] (d ∷ b) e lt = refl
by_later (c ∷ []) [] e lt = absurd cc
by_later (c ∷ x ∷ a) [] e lt = absurd cc
by_later (c ∷ a) (d ∷ b) e lt = grind (arith)

-- where a head is below another, the digits are or the text is
behind_digits : (x y p q : ℕ) (a b : List ℕ) → p ≡ first_byte a → q ≡ first_byte b → p < 256 → q < 256
    → (x * 256 + p < y * 256 + q) ⊎ ((x * 256 + p ≡ y * 256 + q) × (by_id (behind a) (behind b) ≡ Less)) → (t : Bool) → nat_lt x y ≡ t → (x < y) ⊎ ((x ≡ y) × (by_id a b ≡ Less))
behind_digits x y p q a b e f lp lq (inl lt) true t = inl (grind (arith, nat_tests))
behind_digits x y p q a b e f lp lq (inl lt) false t =
    let le : y ≤ x = grind (arith, nat_tests) in
    inr (omega arith, by_first a b (omega arith))
behind_digits x y p q a b e f lp lq (inr h) true t = inl (grind (arith, nat_tests))
behind_digits x y p q a b e f lp lq (inr h) false t =
    let le : y ≤ x = grind (arith, nat_tests) in
    inr (omega (arith, h.0), by_later a b (omega (arith, h.0)) h.1)

pub by_digits : (n x y : ℕ) (a b : List ℕ) → BeginsWithBytes n a → BeginsWithBytes n b → head_from x n a < head_from y n b → (x < y) ⊎ ((x ≡ y) × (by_id a b ≡ Less))
by_digits zero x y a b p q lt = inl lt
by_digits (suc n) x y a b p q lt =
    behind_digits x y (first_byte a) (first_byte b) a b refl refl p.0 q.0 (by_digits n (x * 256 + first_byte a) (y * 256 + first_byte b) (behind a) (behind b) p.1 q.1 lt) (nat_lt x y) refl
