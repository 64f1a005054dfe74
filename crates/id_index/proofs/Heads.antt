-- Heads of ids beside their order.
use Rattle.std.proofs.Common.{◌≡◌, ◌⊎◌, inl, inr, ℕ, zero, suc, ◌<◌, ◌≤◌, Bool, true, false, List, [], ◌∷◌, length, map, take, drop, get_or, nat_lt, Less, Greater, refl, ap, arith}
use Rattle.std.specs.Prelude.{nat_le}
use Rattle.std.specs.List.{AllByRecursion}
use Rattle.std.specs.List.Sorted.{IsStrictlySortedBy, IsNonDecreasing, IsPartitionedBy}
use Rattle.std.proofs.lemmas.Bool.Decides.{nat_tests}
use Rattle.osv_record.specs.Advisories.{Advisory}
use Rattle.evaluate.proofs.Ascending.{by_id, turned, Below, Ascending}
use Rattle.impact_job.specs.Order.{ids, Ascend}
use Rattle.impact_job.proofs.Parting.{Under}
use Rattle.id_index.specs.Heads.{head, BeginsWithBytes}
use Rattle.id_index.proofs.Digits.{by_digits}

abbrev pub AreBytes : List ℕ → Type 0
AreBytes id = BeginsWithBytes 16 id

not_below : (n : ℕ) (a b : List ℕ) → (n < n) ⊎ ((n ≡ n) × (by_id a b ≡ Less)) → by_id a b ≡ Less
not_below n a b (inl lt) = absurd (omega arith)
not_below n a b (inr h) = h.1

pub less_by_head : (a b : List ℕ) → AreBytes a → AreBytes b → head a < head b → by_id a b ≡ Less
less_by_head a b p q lt = not_below 0 a b (by_digits 16 0 0 a b p q lt)

opposed : (a b : List ℕ) → by_id a b ≡ Less → by_id b a ≡ Less → ⊥
opposed a b e f = let g : by_id b a ≡ Greater = turned a b Less e in absurd cc

at_most : (a b : List ℕ) → AreBytes a → AreBytes b → by_id a b ≡ Less → (t : Bool) → nat_lt (head b) (head a) ≡ t → head a ≤ head b
at_most a b p q e true t = absurd (opposed a b e (less_by_head b a q p (grind (arith, nat_tests))))
at_most a b p q e false t = grind (arith, nat_tests)

pub head_rises : (a b : List ℕ) → AreBytes a → AreBytes b → by_id a b ≡ Less → head a ≤ head b
head_rises a b p q e = at_most a b p q e (nat_lt (head b) (head a)) refl

-- ---- of advisories

module _ {A : Type 0} (see : A → Advisory) where
  abbrev pub heads : List A → List ℕ
  heads xs = map head (ids (map see xs))

  abbrev pub AllBytes : List A → Type 0
  AllBytes xs = AllByRecursion AreBytes (ids (map see xs))

  rises_at : (k : List ℕ) (xs : List A) (j d : ℕ) → AreBytes k → AllBytes xs → Below k (map see xs) → j < length (heads xs) → head k ≤ get_or (heads xs) j d
  rises_at k [] j d b bs p lt = absurd (omega arith)
  rises_at k (x ∷ xs) zero d b bs p lt = head_rises k (see x).id b bs.0 p.0
  rises_at k (x ∷ xs) (suc j) d b bs p lt = rises_at k xs j d b bs.1 p.1 (omega arith)

  pub rises : (xs : List A) → Ascending (map see xs) → AllBytes xs → IsNonDecreasing (heads xs)
  rises [] a bs i j d le lt = absurd (omega arith)
  rises (x ∷ xs) a bs zero zero d le lt = omega arith
  rises (x ∷ xs) a bs zero (suc j) d le lt = rises_at (see x).id xs j d bs.0 bs.1 a.0 (omega arith)
  rises (x ∷ xs) a bs (suc i) zero d le lt = absurd (omega arith)
  rises (x ∷ xs) a bs (suc i) (suc j) d le lt = rises xs a.1 bs.1 i j d (omega arith) (omega arith)

  pub heads-drop : (n : ℕ) (xs : List A) → drop n (heads xs) ≡ heads (drop n xs)
  heads-drop zero xs = refl
  heads-drop (suc n) [] = refl
  heads-drop (suc n) (x ∷ xs) = heads-drop n xs

  pub heads-length : (xs : List A) → length (heads xs) ≡ length xs
  heads-length [] = refl
  heads-length (x ∷ xs) = ap suc (heads-length xs)

  pub bytes-drop : (n : ℕ) (xs : List A) → AllBytes xs → AllBytes (drop n xs)
  bytes-drop zero xs bs = bs
  bytes-drop (suc n) [] bs = tt
  bytes-drop (suc n) (x ∷ xs) bs = bytes-drop n xs bs.1

  pub ascending-drop : (n : ℕ) (xs : List A) → Ascending (map see xs) → Ascending (map see (drop n xs))
  ascending-drop zero xs a = a
  ascending-drop (suc n) [] a = tt
  ascending-drop (suc n) (x ∷ xs) a = ascending-drop n xs a.1

  below-take : (k : List ℕ) (n : ℕ) (xs : List A) → Below k (map see xs) → Below k (map see (take n xs))
  below-take k zero xs p = tt
  below-take k (suc n) [] p = tt
  below-take k (suc n) (x ∷ xs) p = (p.0, below-take k n xs p.1)

  pub ascending-take : (n : ℕ) (xs : List A) → Ascending (map see xs) → Ascending (map see (take n xs))
  ascending-take zero xs a = tt
  ascending-take (suc n) [] a = tt
  ascending-take (suc n) (x ∷ xs) a = (below-take (see x).id n xs a.0, ascending-take n xs a.1)

  -- what has a lower head is below the id, and what has a higher one is above it
  pub under : (id : List ℕ) (n : ℕ) (xs : List A) → AreBytes id → AllBytes xs → n ≤ length xs
      → ((k d : ℕ) → 0 ≤ k → k < n → nat_lt (get_or (heads xs) k d) (head id) ≡ true) → Under (map see (take n xs)) id
  under id zero xs b bs le p = tt
  under id (suc n) [] b bs le p = tt
  under id (suc n) (x ∷ xs) b bs le p =
      let first : nat_lt (head (see x).id) (head id) ≡ true = p 0 0 (omega arith) (omega arith) in
      (less_by_head (see x).id id bs.0 b (grind (arith, nat_tests)), under id n xs b bs.1 (omega arith) (λ k d u v. p (suc k) d (omega arith) (omega arith)))

  pub over : (id : List ℕ) (n : ℕ) (xs : List A) → AreBytes id → AllBytes xs
      → ((k d : ℕ) → n ≤ k → k < length (heads xs) → nat_le (get_or (heads xs) k d) (head id) ≡ false) → Below id (map see (drop n xs))
  over id zero [] b bs p = tt
  over id zero (x ∷ xs) b bs p =
      let first : nat_le (head (see x).id) (head id) ≡ false = p 0 0 (omega arith) (omega arith) in
      (less_by_head id (see x).id b bs.0 (grind (arith, nat_tests)), over id zero xs b bs.1 (λ k d u v. p (suc k) d (omega arith) (omega arith)))
  over id (suc n) [] b bs p = tt
  over id (suc n) (x ∷ xs) b bs p = over id n xs b bs.1 (λ k d u v. p (suc k) d (omega arith) (omega arith))

pub ascend : (xs : List Advisory) → Ascending xs → Ascend xs
unfolding IsStrictlySortedBy
ascend [] a = tt
ascend (x ∷ xs) a = (a.0, ascend xs a.1)

-- ---- numbers that rise, parted at one

lower : (a b number : ℕ) → a ≤ b → nat_lt b number ≡ true → nat_lt a number ≡ true
lower a b number le t = grind (arith, nat_tests)

at_least_as_low : (a b number : ℕ) → a ≤ b → nat_le b number ≡ true → nat_le a number ≡ true
at_least_as_low a b number le t = grind (arith, nat_tests)

pub passed_below : (number : ℕ) (xs : List ℕ) → IsNonDecreasing xs → IsPartitionedBy (λ h. nat_lt h number) xs
passed_below number xs rise i j d le lt t = lower (get_or xs i d) (get_or xs j d) number (rise i j d le lt) t

pub passed_upto : (number : ℕ) (xs : List ℕ) → IsNonDecreasing xs → IsPartitionedBy (λ h. nat_le h number) xs
passed_upto number xs rise i j d le lt t = at_least_as_low (get_or xs i d) (get_or xs j d) number (rise i j d le lt) t
