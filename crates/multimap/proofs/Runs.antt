-- The values of one key stand together where the keys ascend.
use Rattle.std.proofs.Common.{◌≡◌, ℕ, ◌-◌, ◌<◌, ◌≤◌, zero, suc, inl, inr, Bool, true, false, cond, List, [], ◌∷◌, length, map, take, drop, get_or, filter, refl, sym, ap, ◌∙◌, arith}
use Rattle.std.specs.List.{zip}
use Rattle.std.specs.List.Sorted.{IsSorted, IsPartitionedBy, IsPartitionPoint}
use Rattle.std.specs.Ordering.{is_eq, is_le, is_lt, ordering_index}
use Rattle.std.specs.Cmp.{IsTotalOrder}
use Rattle.std.specs.declared.cmp.Ordering.{Ordering}
use Rattle.std.specs.declared.cmp.Ordering.TheVariants.{Less, Equal, Greater}
use Rattle.std.proofs.lemmas.Bool.{cases_lt, true≢false, false≢true}
use Rattle.std.proofs.lemmas.List.Sorted.{searchable_from_sorted}
use Rattle.multimap.specs.Entries.{values_of}

module _ {K V : Type 0} (p : K → Bool) where
  abbrev picked : List (K × V) → List V
  picked es = map (λ e. e.1) (filter (λ e. p e.0) es)

  skip : (k : K) (v : V) (es : List (K × V)) → p k ≡ false → picked ((k, v) ∷ es) ≡ picked es
  skip k v es h = ap (λ (b : Bool). map (λ (e : K × V). e.1) (cond b ((k, v) ∷ filter (λ e. p e.0) es) (filter (λ e. p e.0) es))) h

  keep : (k : K) (v : V) (es : List (K × V)) → p k ≡ true → picked ((k, v) ∷ es) ≡ v ∷ picked es
  keep k v es h = ap (λ (b : Bool). map (λ (e : K × V). e.1) (cond b ((k, v) ∷ filter (λ e. p e.0) es) (filter (λ e. p e.0) es))) h

  -- the keys from `lo` to before `hi` pass, and no others
  pub picked-between : (ks : List K) (vs : List V) → length vs ≡ length ks → (lo hi : ℕ) → lo ≤ hi → hi ≤ length ks
      → ((i : ℕ) (d : K) → i < lo → p (get_or ks i d) ≡ false) → ((i : ℕ) (d : K) → lo ≤ i → i < hi → p (get_or ks i d) ≡ true)
      → ((i : ℕ) (d : K) → hi ≤ i → i < length ks → p (get_or ks i d) ≡ false) → take (hi - lo) (drop lo vs) ≡ picked (zip ks vs)
  picked-between [] [] size zero zero le within below here above = refl
  picked-between [] [] size zero (suc hi) le within below here above = absurd (omega (arith, within))
  picked-between [] [] size (suc lo) hi le within below here above = absurd (omega (arith, le, within))
  picked-between [] (v ∷ vs) size lo hi le within below here above = absurd (omega (arith, size))
  picked-between (k ∷ ks) [] size lo hi le within below here above = absurd (omega (arith, size))
  picked-between (k ∷ ks) (v ∷ vs) size zero zero le within below here above =
      picked-between ks vs (omega (arith, size)) 0 0 (omega arith) (omega arith) (λ i d lt. absurd (omega (arith, lt))) (λ i d low lt. absurd (omega (arith, lt)))
      (λ i d low lt. above (suc i) d (omega arith) (omega (arith, lt)))
      ∙ sym (skip k v (zip ks vs) (above 0 k (omega arith) (omega arith)))
  picked-between (k ∷ ks) (v ∷ vs) size zero (suc hi) le within below here above =
      let whole : suc hi - 0 ≡ suc hi = omega arith in
      let less : hi ≡ hi - 0 = omega arith in
      ap (λ (n : ℕ). take n (v ∷ vs)) whole ∙ ap (λ (n : ℕ). v ∷ take n vs) less
      ∙ ap (λ (xs : List V). v ∷ xs)
      (picked-between ks vs (omega (arith, size)) 0 hi (omega arith) (omega (arith, within)) (λ i d lt. absurd (omega (arith, lt))) (λ i d low lt. here (suc i) d (omega arith) (omega (arith, lt)))
      (λ i d low lt. above (suc i) d (omega (arith, low)) (omega (arith, lt))))
      ∙ sym (keep k v (zip ks vs) (here 0 k (omega arith) (omega arith)))
  picked-between (k ∷ ks) (v ∷ vs) size (suc lo) zero le within below here above = absurd (omega (arith, le))
  picked-between (k ∷ ks) (v ∷ vs) size (suc lo) (suc hi) le within below here above =
      let less : suc hi - suc lo ≡ hi - lo = omega arith in
      ap (λ (n : ℕ). take n (drop lo vs)) less
      ∙ picked-between ks vs (omega (arith, size)) lo hi (omega (arith, le)) (omega (arith, within)) (λ i d lt. below (suc i) d (omega (arith, lt)))
      (λ i d low lt. here (suc i) d (omega (arith, low)) (omega (arith, lt))) (λ i d low lt. above (suc i) d (omega (arith, low)) (omega (arith, lt)))
      ∙ sym (skip k v (zip ks vs) (below 0 k (omega arith)))

-- ---- where a search ends

lt-before : (o later : Ordering) → ordering_index o ≤ ordering_index later → is_lt later ≡ true → is_lt o ≡ true
lt-before Less later le h = refl
lt-before Equal Less le h = absurd (omega (arith, le))
lt-before Equal Equal le h = h
lt-before Equal Greater le h = h
lt-before Greater Less le h = absurd (omega (arith, le))
lt-before Greater Equal le h = h
lt-before Greater Greater le h = h

le-before : (o later : Ordering) → ordering_index o ≤ ordering_index later → is_le later ≡ true → is_le o ≡ true
le-before Less later le h = refl
le-before Equal later le h = refl
le-before Greater Less le h = absurd (omega (arith, le))
le-before Greater Equal le h = absurd (omega (arith, le))
le-before Greater Greater le h = h

neither : (o : Ordering) → is_lt o ≡ true → is_eq o ≡ false
neither Less h = refl
neither Equal h = sym h
neither Greater h = refl

both : (o : Ordering) → is_lt o ≡ false → is_le o ≡ true → is_eq o ≡ true
both Less h k = sym h
both Equal h k = refl
both Greater h k = k

above-none : (o : Ordering) → is_le o ≡ false → is_eq o ≡ false
above-none Less h = refl
above-none Equal h = absurd (true≢false h)
above-none Greater h = refl

module _ {K : Type 0} (cmp : K → K → Ordering) (total : IsTotalOrder cmp) (keys : List K) (up : IsSorted cmp keys) (key : K) where
  pub parted-below : IsPartitionedBy (λ k. is_lt (cmp k key)) keys
  parted-below i j d le lt h = lt-before (cmp (get_or keys i d) key) (cmp (get_or keys j d) key) (searchable_from_sorted total (λ k. k) keys key up i j d le lt) h

  pub parted-up_to : IsPartitionedBy (λ k. is_le (cmp k key)) keys
  parted-up_to i j d le lt h = le-before (cmp (get_or keys i d) key) (cmp (get_or keys j d) key) (searchable_from_sorted total (λ k. k) keys key up i j d le lt) h

lt-le : (o : Ordering) → is_lt o ≡ true → is_le o ≡ false → ⊥
lt-le Less h k = true≢false k
lt-le Equal h k = false≢true h
lt-le Greater h k = false≢true h

some-key : {K : Type 0} (keys : List K) → 0 < length keys → (K → ⊥) → ⊥
some-key [] some f = absurd (omega (arith, some))
some-key (k ∷ keys) some f = f k

module _ {K V : Type 0} (cmp : K → K → Ordering) (keys : List K) (values : List V) (size : length values ≡ length keys) (key : K) (start end : ℕ)
    (below : IsPartitionPoint (λ k. is_lt (cmp k key) ≡ true) (λ k. is_lt (cmp k key) ≡ false) keys start)
    (up_to : IsPartitionPoint (λ k. is_le (cmp k key) ≡ true) (λ k. is_le (cmp k key) ≡ false) keys end) where
  crossed : end < start → start ≤ length keys → (d : K) → ⊥
  crossed less within d = lt-le (cmp (get_or keys end d) key) (below.0 end d (omega arith) less) (up_to.1 end d (omega arith) (omega (arith, less, within)))

  pub start-first : start ≤ length keys → start ≤ end
  start-first within =
      elim (cases_lt end start) [
        | inl less ↦ absurd (some-key keys (omega (arith, less, within)) (crossed less within))
        | inr le ↦ le
      ]

  pub values-are : start ≤ end → end ≤ length keys → take (end - start) (drop start values) ≡ values_of cmp (zip keys values) key
  values-are le within =
      picked-between (λ k. is_eq (cmp k key)) keys values size start end le within
      (λ i d lt. neither (cmp (get_or keys i d) key) (below.0 i d (omega arith) lt))
      (λ i d low lt. both (cmp (get_or keys i d) key) (below.1 i d low (omega (arith, within))) (up_to.0 i d (omega arith) lt))
      (λ i d high lt. above-none (cmp (get_or keys i d) key) (up_to.1 i d high lt))
