-- Advisories that ascend, parted at an id.
use Rattle.std.proofs.Common.{◌≡◌, ℕ, zero, suc, ◌<◌, ◌≤◌, Bool, true, false, cond, List, [], ◌∷◌, ◌++◌, length, map, take, drop, get_or, Ordering, Less, Equal, Greater, is_eq, refl, sym, ap, subst, ◌∙◌, arith}
use Rattle.std.specs.Prelude.{Option, Some, None, IfSome}
use Rattle.std.specs.Option.{option_to_list}
use Rattle.std.specs.Ordering.{is_lt}
use Rattle.std.specs.List.{AllByRecursion}
use Rattle.std.specs.List.Sorted.{IsStrictlySortedBy, IsPartitionedBy, IsPartitionPoint}
use Rattle.std.proofs.lemmas.Cmp.{nat_list_cmp_total}
use Rattle.osv_record.specs.Advisories.{Advisory}
use Rattle.evaluate.proofs.Ascending.{by_id, one_id, turned, Below, Ascending, below-trans}
use Rattle.impact_job.specs.Order.{ids, Ascend, IsSplit, first_of, rest_of}

pub ascending : (xs : List Advisory) → Ascend xs → Ascending xs
unfolding IsStrictlySortedBy
ascending [] a = tt
ascending (x ∷ xs) a = (a.0, ascending xs a.1)

-- each is below the id
abbrev pub Under : List Advisory → List ℕ → Type 0
Under xs id = AllByRecursion (λ k. by_id k id ≡ Less) (ids xs)

-- ---- the ends of a binary search

less : (o : Ordering) → is_lt o ≡ true → o ≡ Less
less Less e = refl
less Equal e = absurd cc
less Greater e = absurd cc

greater : (o : Ordering) → is_eq o ≡ false → is_lt o ≡ false → o ≡ Greater
greater Less e n = absurd cc
greater Equal e n = absurd cc
greater Greater e n = refl

equal : (o : Ordering) → is_eq o ≡ true → o ≡ Equal
equal Less e = absurd cc
equal Equal e = refl
equal Greater e = absurd cc

module _ {A : Type 0} (see : A → Advisory) (id : List ℕ) where
  abbrev pub before : A → Bool
  before a = is_lt (by_id (see a).id id)

  below-at : (k : List ℕ) (xs : List A) (j : ℕ) (d : A) → Below k (map see xs) → j < length xs → by_id k (see (get_or xs j d)).id ≡ Less
  below-at k [] j d p lt = absurd (omega arith)
  below-at k (x ∷ xs) zero d p lt = p.0
  below-at k (x ∷ xs) (suc j) d p lt = below-at k xs j d p.1 (omega arith)

  pub partitioned : (xs : List A) → Ascending (map see xs) → IsPartitionedBy before xs
  partitioned [] a i j d le lt t = absurd (omega arith)
  partitioned (x ∷ xs) a zero zero d le lt t = t
  partitioned (x ∷ xs) a zero (suc j) d le lt t =
      let first : by_id (see x).id (see (get_or xs j d)).id ≡ Less = below-at (see x).id xs j d a.0 (omega arith) in
      ap is_lt (nat_list_cmp_total.trans (see x).id (see (get_or xs j d)).id id first (less _ t))
  partitioned (x ∷ xs) a (suc i) zero d le lt t = absurd (omega arith)
  partitioned (x ∷ xs) a (suc i) (suc j) d le lt t = partitioned xs a.1 i j d (omega arith) (omega arith) t

  pub NotBefore : List A → Type 0
  NotBefore [] = Unit {0}
  NotBefore (x ∷ xs) = before x ≡ false

  under_cut : (xs : List A) (n : ℕ) → n ≤ length xs → ((k : ℕ) (d : A) → 0 ≤ k → k < n → before (get_or xs k d) ≡ true) → Under (map see (take n xs)) id
  under_cut xs zero le p = tt
  under_cut [] (suc n) le p = tt
  under_cut (x ∷ xs) (suc n) le p = (less _ (p 0 x (omega arith) (omega arith)), under_cut xs n (omega arith) (λ k d a b. p (suc k) d (omega arith) (omega arith)))

  not_before : (xs : List A) (n : ℕ) → ((k : ℕ) (d : A) → n ≤ k → k < length xs → before (get_or xs k d) ≡ false) → NotBefore (drop n xs)
  unfolding NotBefore
  not_before [] zero p = tt
  not_before [] (suc n) p = tt
  not_before (x ∷ xs) zero p = p 0 x (omega arith) (omega arith)
  not_before (x ∷ xs) (suc n) p = not_before xs n (λ k d a b. p (suc k) d (omega arith) (omega arith))

  -- ---- what follows

  pub record Parted (rest : List Advisory) (found : Option Advisory) (above : List Advisory) : Type 0 where
    pub whole : rest ≡ option_to_list found ++ above
    pub same : IfSome found (λ r. r.id ≡ id)
    pub over : Below id above

  parted_at : (x : Advisory) (xs : List Advisory) (b : Bool) → is_eq (by_id x.id id) ≡ b → is_lt (by_id x.id id) ≡ false → Ascending (x ∷ xs)
      → Parted (x ∷ xs) (cond b (Some x) None) (cond b xs (x ∷ xs))
  parted_at x xs true e n a =
      let one : x.id ≡ id = one_id x.id id (equal _ e) in
      record { whole = refl; same = one; over = subst (λ (i : List ℕ). Below i xs) one a.0 }
  parted_at x xs false e n a =
      let up : by_id id x.id ≡ Less = turned x.id id Greater (greater _ e n) in
      record { whole = refl; same = tt; over = (up, below-trans id x.id xs up a.0) }

  parted : (rest : List A) → NotBefore rest → Ascending (map see rest) → Parted (map see rest) (first_of id (map see rest)) (rest_of id (map see rest))
  unfolding NotBefore
  parted [] n a = record { whole = refl; same = tt; over = tt }
  parted (x ∷ xs) n a = parted_at (see x) (map see xs) (is_eq (by_id (see x).id id)) refl n a

  halves : (xs : List A) (n : ℕ) → map see xs ≡ map see (take n xs) ++ map see (drop n xs)
  halves [] zero = refl
  halves [] (suc n) = refl
  halves (x ∷ xs) zero = refl
  halves (x ∷ xs) (suc n) = ap (λ (ys : List Advisory). see x ∷ ys) (halves xs n)

  ascending-drop : (xs : List A) (n : ℕ) → Ascending (map see xs) → Ascending (map see (drop n xs))
  ascending-drop [] zero a = tt
  ascending-drop [] (suc n) a = tt
  ascending-drop (x ∷ xs) zero a = a
  ascending-drop (x ∷ xs) (suc n) a = ascending-drop xs n a.1

  pub split : (xs : List A) (n : ℕ) → n ≤ length xs → IsPartitionPoint (λ y. before y ≡ true) (λ y. before y ≡ false) xs n → Ascending (map see xs)
      → IsSplit id (map see xs) (map see (take n xs)) (first_of id (map see (drop n xs))) (rest_of id (map see (drop n xs)))
  split xs n le point a =
      let p = parted (drop n xs) (not_before xs n point.1) (ascending-drop xs n a) in
      record {
        whole = halves xs n ∙ ap (λ (ys : List Advisory). map see (take n xs) ++ ys) p.whole;
        under = under_cut xs n le point.0;
        same = p.same;
        over = p.over;
      }

  pub split-from : (xs below rest : List A) (found : Option Advisory) (above : List Advisory) (n : ℕ) → n ≤ length xs
      → (Ascend (map see xs) → IsPartitionPoint (λ y. before y ≡ true) (λ y. before y ≡ false) xs n) → below ≡ take n xs → rest ≡ drop n xs → found ≡ first_of id (map see rest) → above ≡ rest_of id (map see rest)
      → Ascend (map see xs) → IsSplit id (map see xs) (map see below) found above
  split-from xs below rest found above n le point front back first others asc =
      let f : found ≡ first_of id (map see (drop n xs)) = first ∙ ap (λ (ys : List A). first_of id (map see ys)) back in
      let o : above ≡ rest_of id (map see (drop n xs)) = others ∙ ap (λ (ys : List A). rest_of id (map see ys)) back in
      subst (λ (ys : List A). IsSplit id (map see xs) (map see ys) found above) (sym front)
      (subst (λ (g : Option Advisory). IsSplit id (map see xs) (map see (take n xs)) g above) (sym f)
      (subst (λ (ys : List Advisory). IsSplit id (map see xs) (map see (take n xs)) (first_of id (map see (drop n xs))) ys) (sym o)
      (split xs n le (point asc) (ascending (map see xs) asc))))
