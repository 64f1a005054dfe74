-- Entries in order, once each, and what they have under a name and an ecosystem.
use Rattle.std.proofs.Common.{◌≡◌, ℕ, ◌<◌, inl, inr, Bool, true, false, cond, not, ◌&&◌, ◌||◌, eqb, ltb, List, get_or, [], ◌∷◌, map, filter, Option, Some, None, Ordering, Less, Equal, Greater, refl, sym, ap, ◌∙◌, arith}
use Rattle.std.specs.List.{list_any, dedup, dedup_from, AllByRecursion}
use Rattle.std.specs.List.Sorted.{IsStrictlySortedBy}
use Rattle.std.specs.Cmp.{ranks}
use Rattle.std.specs.Ordering.{is_eq, nat_cmp, ordering_then, MatchOrdering}
use Rattle.std.proofs.lemmas.Bool.{cases_Bool, and_parts, eq-eqb, ne_eqb, eqb-true, lt-ltb, ltb-true, false≢true}
use Rattle.std.proofs.lemmas.List.Folds.{list_any_none, list_any_at}
use Rattle.multimap.specs.Entries.{values_of}
use Rattle.package_index.specs.Index.{key_cmp, under}
use Rattle.package_index.specs.Noted.{is_entry, noted_at, AreGiven}
use Rattle.package_index.proofs.Rising.{has, AllAbove}
use Rattle.package_index.proofs.Noting.{Entries}

-- ---- keys

then-eq : (o p : Ordering) → is_eq (ordering_then o p) ≡ (is_eq o && is_eq p)
then-eq Less p = refl
then-eq Equal p = refl
then-eq Greater p = refl

nat-eq : (x y : ℕ) → is_eq (nat_cmp x y) ≡ eqb x y
nat-eq x y = by (nat_cmp x y) (ranks x y)
  where
    by : (o : Ordering) → MatchOrdering o (x < y) (x ≡ y) (y < x) → is_eq o ≡ eqb x y
    by Less h = sym (ne_eqb x y (λ e. omega (arith, h, e)))
    by Equal h = sym (eq-eqb x y h)
    by Greater h = sym (ne_eqb x y (λ e. omega (arith, h, e)))

is-key : (a b : ℕ × ℕ) → is_eq (key_cmp a b) ≡ (eqb a.0 b.0 && eqb a.1 b.1)
is-key a b = then-eq (nat_cmp a.0 b.0) (nat_cmp a.1 b.1) ∙ ap (λ (x : Bool). x && is_eq (nat_cmp a.1 b.1)) (nat-eq a.0 b.0) ∙ ap (λ (x : Bool). eqb a.0 b.0 && x) (nat-eq a.1 b.1)

nat-self : (x : ℕ) → nat_cmp x x ≡ Equal
nat-self x = by (nat_cmp x x) (ranks x x)
  where
    by : (o : Ordering) → MatchOrdering o (x < x) (x ≡ x) (x < x) → o ≡ Equal
    by Less h = absurd (omega (arith, h))
    by Equal h = refl
    by Greater h = absurd (omega (arith, h))

-- ---- members

one-member : (b : Bool) (e : (ℕ × ℕ) × ℕ) (es : Entries) (i : ℕ) → has (map (λ x. x.1) (cond b (e ∷ es) es)) i ≡ ((b && eqb e.1 i) || has (map (λ x. x.1) es) i)
one-member true e es i = refl
one-member false e es i = refl

values-members : (es : Entries) (n m i : ℕ) → has (values_of key_cmp es (n, m)) i ≡ list_any (is_entry n m i) es
values-members [] n m i = refl
values-members (e ∷ es) n m i =
    one-member (is_eq (key_cmp e.0 (n, m))) e (filter (λ x. is_eq (key_cmp x.0 (n, m))) es) i
    ∙ ap (λ (b : Bool). (b && eqb e.1 i) || has (values_of key_cmp es (n, m)) i) (is-key e.0 (n, m)) ∙ ap (λ (b : Bool). is_entry n m i e || b) (values-members es n m i)

pub under-members : (es : Entries) (name ecosystem : Option ℕ) (i : ℕ) → has (under es name ecosystem) i ≡ noted_at es name ecosystem i
under-members es None ecosystem i = refl
under-members es (Some n) None i = refl
under-members es (Some n) (Some m) i = values-members es n m i

-- ---- order

abbrev pub entry_cmp : (ℕ × ℕ) × ℕ → (ℕ × ℕ) × ℕ → Ordering
entry_cmp a b = ordering_then (key_cmp a.0 b.0) (nat_cmp a.1 b.1)

-- of two entries under one key the values are in order
in-key : (a b : (ℕ × ℕ) × ℕ) (key : ℕ × ℕ) → is_eq (key_cmp a.0 key) ≡ true → is_eq (key_cmp b.0 key) ≡ true → entry_cmp a b ≡ Less → nat_cmp a.1 b.1 ≡ Less
in-key a b key a_is b_is lt =
    let x = and_parts (eqb a.0.0 key.0) (eqb a.0.1 key.1) (sym (is-key a.0 key) ∙ a_is) in
    let y = and_parts (eqb b.0.0 key.0) (eqb b.0.1 key.1) (sym (is-key b.0 key) ∙ b_is) in
    let first : b.0.0 ≡ a.0.0 = eqb-true b.0.0 key.0 y.0 ∙ sym (eqb-true a.0.0 key.0 x.0) in
    let second : b.0.1 ≡ a.0.1 = eqb-true b.0.1 key.1 y.1 ∙ sym (eqb-true a.0.1 key.1 x.1) in
    let one : nat_cmp a.0.0 b.0.0 ≡ Equal = ap (nat_cmp a.0.0) first ∙ nat-self a.0.0 in
    let two : nat_cmp a.0.1 b.0.1 ≡ Equal = ap (nat_cmp a.0.1) second ∙ nat-self a.0.1 in
    sym (ap (λ (o : Ordering). ordering_then (ordering_then o (nat_cmp a.0.1 b.0.1)) (nat_cmp a.1 b.1)) one ∙ ap (λ (o : Ordering). ordering_then o (nat_cmp a.1 b.1)) two) ∙ lt

one-later : (a : ℕ) (b : Bool) (e : (ℕ × ℕ) × ℕ) (es : Entries) → (b ≡ true → nat_cmp a e.1 ≡ Less) → AllAbove a (map (λ x. x.1) es) → AllAbove a (map (λ x. x.1) (cond b (e ∷ es) es))
one-later a true e es h all = (h refl, all)
one-later a false e es h all = all

later-above : (a : (ℕ × ℕ) × ℕ) (key : ℕ × ℕ) → is_eq (key_cmp a.0 key) ≡ true → (es : Entries) → AllByRecursion (λ e. entry_cmp a e ≡ Less) es → AllAbove a.1 (values_of key_cmp es key)
later-above a key a_is [] all = tt
later-above a key a_is (e ∷ es) all =
    one-later a.1 (is_eq (key_cmp e.0 key)) e (filter (λ x. is_eq (key_cmp x.0 key)) es) (λ e_is. in-key a e key a_is e_is all.0) (later-above a key a_is es all.1)

one-rising : (b : Bool) (e : (ℕ × ℕ) × ℕ) (es : Entries) → (b ≡ true → AllAbove e.1 (map (λ x. x.1) es)) → IsStrictlySortedBy nat_cmp (map (λ x. x.1) es)
    → IsStrictlySortedBy nat_cmp (map (λ x. x.1) (cond b (e ∷ es) es))
unfolding IsStrictlySortedBy
one-rising true e es h up = (h refl, up)
one-rising false e es h up = up

values-rising : (es : Entries) (key : ℕ × ℕ) → IsStrictlySortedBy entry_cmp es → IsStrictlySortedBy nat_cmp (values_of key_cmp es key)
unfolding IsStrictlySortedBy
values-rising [] key up = tt
values-rising (e ∷ es) key up =
    one-rising (is_eq (key_cmp e.0 key)) e (filter (λ x. is_eq (key_cmp x.0 key)) es) (λ e_is. later-above e key e_is es up.0) (values-rising es key up.1)

pub under-rising : (es : Entries) (name ecosystem : Option ℕ) → IsStrictlySortedBy entry_cmp es → IsStrictlySortedBy nat_cmp (under es name ecosystem)
unfolding IsStrictlySortedBy
under-rising es None ecosystem up = tt
under-rising es (Some n) None up = tt
under-rising es (Some n) (Some m) up = values-rising es (n, m) up

-- an order of entries by key leaves them as they are
pub under-same : (es fs : Entries) (name ecosystem : Option ℕ) → ((key : ℕ × ℕ) → values_of key_cmp fs key ≡ values_of key_cmp es key) → under fs name ecosystem ≡ under es name ecosystem
under-same es fs None ecosystem same = refl
under-same es fs (Some n) None same = refl
under-same es fs (Some n) (Some m) same = same (n, m)

pub noted-same : (es fs : Entries) → ((n m i : ℕ) → list_any (is_entry n m i) fs ≡ list_any (is_entry n m i) es) → (name ecosystem : Option ℕ) (i : ℕ) → noted_at fs name ecosystem i ≡ noted_at es name ecosystem i
noted-same es fs same None ecosystem i = refl
noted-same es fs same (Some n) None i = refl
noted-same es fs same (Some n) (Some m) i = same n m i

-- ---- once each

twice : (a b c : Bool) → a ≡ b → (a || c) ≡ (a || (b || c))
twice true b c h = refl
twice false true c h = absurd (false≢true h)
twice false false c h = refl

module _ {X : Type 0} (equal : X → X → Bool) (test : X → Bool) (alike : (x y : X) → equal x y ≡ true → test x ≡ test y) where
  any-dedup_from : (k : X) (xs : List X) → list_any test (dedup_from equal k xs) ≡ (test k || list_any test xs)
  any-dedup_from k [] = refl
  any-dedup_from k (x ∷ xs) =
      elim (cases_Bool (equal x k)) [
        | inl same ↦
            ap (λ (b : Bool). list_any test (cond b (dedup_from equal k xs) (k ∷ dedup_from equal x xs))) same ∙ any-dedup_from k xs ∙ twice (test k) (test x) (list_any test xs) (sym (alike x k same))
        | inr other ↦
            ap (λ (b : Bool). list_any test (cond b (dedup_from equal k xs) (k ∷ dedup_from equal x xs))) other ∙ ap (λ (b : Bool). test k || b) (any-dedup_from x xs)
      ]

  pub any-dedup : (xs : List X) → list_any test (dedup equal xs) ≡ list_any test xs
  any-dedup [] = refl
  any-dedup (x ∷ xs) = any-dedup_from x xs

-- entries that are equal are those of one key and one index
pub alike-entries : (n m i : ℕ) (x y : (ℕ × ℕ) × ℕ) → ((eqb x.0.0 y.0.0 && eqb x.0.1 y.0.1) && eqb x.1 y.1) ≡ true → is_entry n m i x ≡ is_entry n m i y
alike-entries n m i x y same =
    let all = and_parts (eqb x.0.0 y.0.0 && eqb x.0.1 y.0.1) (eqb x.1 y.1) same in
    let keys = and_parts (eqb x.0.0 y.0.0) (eqb x.0.1 y.0.1) all.0 in
    ap (λ (k : ℕ). (eqb k n && eqb x.0.1 m) && eqb x.1 i) (eqb-true x.0.0 y.0.0 keys.0) ∙ ap (λ (k : ℕ). (eqb y.0.0 n && eqb k m) && eqb x.1 i) (eqb-true x.0.1 y.0.1 keys.1)
    ∙ ap (λ (k : ℕ). (eqb y.0.0 n && eqb y.0.1 m) && eqb k i) (eqb-true x.1 y.1 all.1)

abbrev as-entry : ℕ → ℕ → ℕ → (ℕ × ℕ) × ℕ
as-entry a b c = ((a, b), c)

-- whatever is said of them
pub one-entry : (x y : (ℕ × ℕ) × ℕ) → ((eqb x.0.0 y.0.0 && eqb x.0.1 y.0.1) && eqb x.1 y.1) ≡ true → x ≡ y
one-entry x y same =
    let all = and_parts (eqb x.0.0 y.0.0 && eqb x.0.1 y.0.1) (eqb x.1 y.1) same in
    let keys = and_parts (eqb x.0.0 y.0.0) (eqb x.0.1 y.0.1) all.0 in
    ap (λ (a : ℕ). as-entry a x.0.1 x.1) (eqb-true x.0.0 y.0.0 keys.0) ∙ ap (λ (b : ℕ). as-entry y.0.0 b x.1) (eqb-true x.0.1 y.0.1 keys.1) ∙ ap (λ (c : ℕ). as-entry y.0.0 y.0.1 c) (eqb-true x.1 y.1 all.1)

-- entries with the same members have numbers that were given
pub given-same : (names ecosystems : ℕ) (es fs : Entries) → ((test : (ℕ × ℕ) × ℕ → Bool) → list_any test fs ≡ list_any test es) → AreGiven names ecosystems es → AreGiven names ecosystems fs
given-same names ecosystems es fs same given k d lt =
    let within = λ (x : (ℕ × ℕ) × ℕ). ltb x.0.0 names && ltb x.0.1 ecosystems in
    let e = get_or fs k d in
    let none : list_any (λ x. not (within x)) es ≡ false =
    list_any_none (λ x. not (within x)) es
    (λ j f low. let x = get_or es j f in
    ap (λ (b : Bool). not (b && ltb x.0.1 ecosystems)) (lt-ltb x.0.0 names (given j f low).0) ∙ ap not (lt-ltb x.0.1 ecosystems (given j f low).1))
    in
    elim (cases_Bool (within e)) [
      | inl so ↦ let parts = and_parts (ltb e.0.0 names) (ltb e.0.1 ecosystems) so in (ltb-true e.0.0 names parts.0, ltb-true e.0.1 ecosystems parts.1)
      | inr not_so ↦ absurd (false≢true (sym none ∙ sym (same (λ x. not (within x))) ∙ list_any_at (λ x. not (within x)) fs k d lt (ap not not_so)))
    ]
