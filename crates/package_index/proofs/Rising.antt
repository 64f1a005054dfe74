-- Lists of numbers that ascend, and what is listed.
use Rattle.std.proofs.Common.{◌≡◌, ℕ, suc, ◌+◌, ◌<◌, inl, inr, Bool, true, false, cond, ◌&&◌, ◌||◌, eqb, List, [], ◌∷◌, ◌++◌, length, map, take, get_or, Ordering, Less, refl, sym, ap, subst, ◌∙◌, arith, append-nil, append_assoc}
use Rattle.std.specs.List.{list_any, AllByRecursion}
use Rattle.std.specs.List.Sorted.{IsStrictlySortedBy}
use Rattle.std.specs.Cmp.{ranks, nat_cmp_is}
use Rattle.std.specs.Ordering.{nat_cmp, MatchOrdering}
use Rattle.std.proofs.lemmas.Bool.{cases_eq, eq-eqb, ne_eqb, eqb-true, or_cases, or_left, false≢true, false_from_ne_true}
use Rattle.std.proofs.lemmas.List.{map-append, take_more, length-map, length-take}
use Rattle.std.proofs.lemmas.List.Folds.{list_any-append}
use Rattle.osv_prim.specs.declared.package.PackageKey.{PackageKey}
use Rattle.osv_record.specs.Advisories.{Advisory}
use Rattle.package_index.specs.Listing.{lists, listed, listed_from}

abbrev pub has : List ℕ → ℕ → Bool
has xs i = list_any (λ x. eqb x i) xs

pub below : (a b : ℕ) → nat_cmp a b ≡ Less → a < b
below a b less = subst (λ (o : Ordering). MatchOrdering o (a < b) (a ≡ b) (b < a)) less (ranks a b)

pub less : (a b : ℕ) → a < b → nat_cmp a b ≡ Less
less a b lt = sym (nat_cmp_is a b Less lt)

abbrev pub AllAbove : ℕ → List ℕ → Type 0
AllAbove a xs = AllByRecursion (λ x. nat_cmp a x ≡ Less) xs

above : (a : ℕ) (xs : List ℕ) → AllAbove a xs → (i : ℕ) → has xs i ≡ true → a < i
above a [] all i h = absurd (false≢true h)
above a (x ∷ xs) all i h =
    elim (or_cases (eqb x i) (has xs i) h) [
      | inl here ↦ omega (arith, below a x all.0, eqb-true x i here)
      | inr later ↦ above a xs all.1 i later
    ]

pub absent : (a : ℕ) (xs : List ℕ) → AllAbove a xs → (i : ℕ) → a ≡ i → has xs i ≡ false
absent a xs all i same = false_from_ne_true (has xs i) (λ h. omega (arith, above a xs all i h, same))

first-is : (x : ℕ) (xs : List ℕ) → has (x ∷ xs) x ≡ true
first-is x xs = or_left (eqb x x) (has xs x) (eq-eqb x x refl)

-- two that ascend and have the same members are one
pub same-members : (xs ys : List ℕ) → IsStrictlySortedBy nat_cmp xs → IsStrictlySortedBy nat_cmp ys → ((i : ℕ) → has xs i ≡ has ys i) → xs ≡ ys
unfolding IsStrictlySortedBy
same-members [] [] up down same = refl
same-members [] (y ∷ ys) up down same = absurd (false≢true (same y ∙ first-is y ys))
same-members (x ∷ xs) [] up down same = absurd (false≢true (sym (same x) ∙ first-is x xs))
same-members (x ∷ xs) (y ∷ ys) up down same =
    let head : x ≡ y =
    elim (or_cases (eqb y x) (has ys x) (sym (same x) ∙ first-is x xs)) [
      | inl here ↦ sym (eqb-true y x here)
      | inr low ↦
          elim (or_cases (eqb x y) (has xs y) (same y ∙ first-is y ys)) [
            | inl here ↦ eqb-true x y here
            | inr high ↦ absurd (omega (arith, above y ys down.0 x low, above x xs up.0 y high))
          ]
    ] in
    ap (λ (k : ℕ). k ∷ xs) head
    ∙ ap (λ (zs : List ℕ). y ∷ zs)
    (same-members xs ys up.1 down.1
    (λ i. elim (cases_eq x i) [
      | inl here ↦ absent x xs up.0 i here ∙ sym (absent y ys down.0 i (sym head ∙ here))
      | inr other ↦ sym (ap (λ (b : Bool). b || has xs i) (ne_eqb x i other)) ∙ same i ∙ ap (λ (b : Bool). b || has ys i) (ne_eqb y i (λ e. other (head ∙ e)))
    ]))

-- ---- what is listed

one-above : (a i : ℕ) (b : Bool) (xs : List ℕ) → a < i → AllAbove a xs → AllAbove a (cond b (i ∷ []) [] ++ xs)
one-above a i true xs lt all = (less a i lt, all)
one-above a i false xs lt all = all

pub listed-above : (a i : ℕ) (rs : List Advisory) (asked : PackageKey) → a < i → AllAbove a (listed_from i rs asked)
listed-above a i [] asked lt = tt
listed-above a i (r ∷ rs) asked lt = one-above a i (lists asked r) (listed_from (i + 1) rs asked) lt (listed-above a (i + 1) rs asked (omega arith))

one-rising : (i : ℕ) (b : Bool) (xs : List ℕ) → AllAbove i xs → IsStrictlySortedBy nat_cmp xs → IsStrictlySortedBy nat_cmp (cond b (i ∷ []) [] ++ xs)
unfolding IsStrictlySortedBy
one-rising i true xs all up = (all, up)
one-rising i false xs all up = up

pub listed-rising : (i : ℕ) (rs : List Advisory) (asked : PackageKey) → IsStrictlySortedBy nat_cmp (listed_from i rs asked)
unfolding IsStrictlySortedBy
listed-rising i [] asked = tt
listed-rising i (r ∷ rs) asked = one-rising i (lists asked r) (listed_from (i + 1) rs asked) (listed-above i (i + 1) rs asked (omega arith)) (listed-rising (i + 1) rs asked)

listed-push : (i : ℕ) (rs : List Advisory) (r : Advisory) (asked : PackageKey) → listed_from i (rs ++ r ∷ []) asked ≡ listed_from i rs asked ++ cond (lists asked r) ((i + length rs) ∷ []) []
listed-push i [] r asked =
    let same : i ≡ i + 0 = omega arith in
    append-nil (cond (lists asked r) (i ∷ []) []) ∙ ap (λ (k : ℕ). cond (lists asked r) (k ∷ []) []) same
listed-push i (q ∷ rs) r asked =
    let same : i + 1 + length rs ≡ i + suc (length rs) = omega arith in
    ap (λ (xs : List ℕ). cond (lists asked q) (i ∷ []) [] ++ xs) (listed-push (i + 1) rs r asked)
    ∙ sym (append_assoc (cond (lists asked q) (i ∷ []) []) (listed_from (i + 1) rs asked) (cond (lists asked r) ((i + 1 + length rs) ∷ []) []))
    ∙ ap (λ (k : ℕ). (cond (lists asked q) (i ∷ []) [] ++ listed_from (i + 1) rs asked) ++ cond (lists asked r) (k ∷ []) []) same

or_no : (a : Bool) → (a || false) ≡ a
or_no true = refl
or_no false = refl

has-one : (b : Bool) (k i : ℕ) → has (cond b (k ∷ []) []) i ≡ (b && eqb k i)
has-one true k i = or_no (eqb k i)
has-one false k i = refl

-- an advisory more
pub listed-more : {X : Type 0} (advisory_of : X → Advisory) (records : List X) (k : ℕ) (item : X) → k < length records → item ≡ get_or records k item → (asked : PackageKey) (i : ℕ)
    → has (listed (map advisory_of (take (k + 1) records)) asked) i ≡ (has (listed (map advisory_of (take k records)) asked) i || (lists asked (advisory_of item) && eqb k i))
listed-more {X} advisory_of records k item lt is asked i =
    let first = map advisory_of (take k records) in
    let long : 0 + length first ≡ k = omega (arith, length-map (take k records) advisory_of, length-take k records) in
    ap (λ (rs : List Advisory). has (listed rs asked) i)
    (ap (map advisory_of) (take_more records k item lt) ∙ map-append advisory_of (take k records) (get_or records k item ∷ []) ∙ ap (λ (x : X). first ++ advisory_of x ∷ []) (sym is))
    ∙ ap (λ (xs : List ℕ). has xs i) (listed-push 0 first (advisory_of item) asked) ∙ list_any-append (λ x. eqb x i) (listed first asked) (cond (lists asked (advisory_of item)) ((0 + length first) ∷ []) [])
    ∙ ap (λ (b : Bool). has (listed first asked) i || b)
    (has-one (lists asked (advisory_of item)) (0 + length first) i ∙ ap (λ (n : ℕ). lists asked (advisory_of item) && eqb n i) long)
