-- What is noted of the sets of GIT ranges under the numbers of their repositories.
use Rattle.std.proofs.Common.{◌≡◌, ℕ, ◌≤◌, ◌<◌, Bool, true, false, cond, ◌&&◌, ◌||◌, eqb, List, [], ◌∷◌, ◌++◌, length, map, Option, Some, None, Ordering, Less, Equal, Greater, refl, sym, ap, subst, ◌∙◌, arith, append_assoc, append-nil}
use Rattle.std.specs.Prelude.{filter}
use Rattle.std.specs.List.{list_any, AllByRecursion}
use Rattle.std.specs.Arc.{arc_value}
use Rattle.std.specs.Cmp.{ranks}
use Rattle.std.specs.declared.sync.Arc.{Arc}
use Rattle.std.specs.Ordering.{nat_cmp, is_eq, MatchOrdering}
use Rattle.std.proofs.lemmas.Bool.{eq-eqb, ne_eqb}
use Rattle.multimap.specs.Entries.{values_of}
use Rattle.impact_set.specs.Standing.{Known}
use Rattle.package_index.specs.Numbers.{number_of}
use Rattle.repo_index.specs.Index.{Kept, Noted, beside, kept_seen, noted_seen, all_seen, has_at, is_noted, is_under, under, AscendFrom, AscendTo}

one-member : (b : Bool) (e : Noted) (es : List Noted) (n i : ℕ) → list_any (has_at n i) (map (λ x. x.1) (cond b (e ∷ es) es)) ≡ ((b && has_at n i e.1) || list_any (has_at n i) (map (λ x. x.1) es))
one-member true e es n i = refl
one-member false e es n i = refl

is-number : (x y : ℕ) → is_eq (nat_cmp x y) ≡ eqb x y
is-number x y = by (nat_cmp x y) (ranks x y)
  where
    by : (o : Ordering) → MatchOrdering o (x < y) (x ≡ y) (y < x) → is_eq o ≡ eqb x y
    by Less h = sym (ne_eqb x y (λ e. omega (arith, h, e)))
    by Equal h = sym (eq-eqb x y h)
    by Greater h = sym (ne_eqb x y (λ e. omega (arith, h, e)))

under-noted : (es : List Noted) (place : Option ℕ) (n i : ℕ) → list_any (has_at n i) (under es place) ≡ list_any (λ e. is_under place e.0 && has_at n i e.1) es
under-noted [] None n i = refl
under-noted (e ∷ es) None n i = under-noted es None n i
under-noted [] (Some m) n i = refl
under-noted (e ∷ es) (Some m) n i =
    one-member (is_eq (nat_cmp e.0 m)) e (filter (λ x. is_eq (nat_cmp x.0 m)) es) n i
    ∙ ap (λ (b : Bool). (b && has_at n i e.1) || list_any (has_at n i) (under es (Some m))) (is-number e.0 m)
    ∙ ap (λ (b : Bool). (eqb e.0 m && has_at n i e.1) || b) (under-noted es (Some m) n i)

-- what is found under a repository is what is noted there
pub found-noted : (keys : List (List ℕ)) (es : List Noted) (repo : List ℕ) (n i : ℕ) → list_any (has_at n i) (under es (number_of keys repo)) ≡ is_noted keys es repo n i
found-noted keys es repo n i = under-noted es (number_of keys repo) n i

one-seen : {Z : Type 0} (b : Bool) (e : ℕ × (ℕ × Arc Known Z)) (later : List (ℕ × (ℕ × Arc Known Z))) (seen : List Noted) → map (λ x. x.1) seen ≡ map kept_seen (map (λ x. x.1) later)
    → map (λ x. x.1) (cond b (noted_seen e ∷ seen) seen) ≡ map kept_seen (map (λ x. x.1) (cond b (e ∷ later) later))
one-seen true e later seen same = ap (λ (ks : List Kept). kept_seen e.1 ∷ ks) same
one-seen false e later seen same = same

-- what is found among the values that are shared
pub found-seen : {Z : Type 0} (es : List (ℕ × (ℕ × Arc Known Z))) (m : ℕ) → under (all_seen es) (Some m) ≡ map kept_seen (values_of nat_cmp es m)
found-seen [] m = refl
found-seen {Z} (e ∷ es) m = one-seen (is_eq (nat_cmp e.0 m)) e (filter (λ x. is_eq (nat_cmp x.0 m)) es) (filter (λ x. is_eq (nat_cmp x.0 m)) (all_seen es)) (found-seen es m)

-- entries with the same values under each number are found alike
pub found-alike : {Z : Type 0} (es fs : List (ℕ × (ℕ × Arc Known Z))) → ((m : ℕ) → values_of nat_cmp es m ≡ values_of nat_cmp fs m) → (place : Option ℕ) → under (all_seen es) place ≡ under (all_seen fs) place
found-alike es fs same None = refl
found-alike es fs same (Some m) = found-seen es m ∙ ap (map kept_seen) (same m) ∙ sym (found-seen fs m)

-- ---- the indexes ascend

lower : (low high : ℕ) (ks : List Kept) → low ≤ high → AscendFrom high ks → AscendFrom low ks
lower low high [] le up = tt
lower low high (k ∷ ks) le up = (omega (arith, le, up.0), up.1)

kept-ascend : (b : Bool) (low : ℕ) (e : Noted) (es : List Noted) → low ≤ e.1.0 → AscendFrom e.1.0 (map (λ x. x.1) es) → AscendFrom low (map (λ x. x.1) (cond b (e ∷ es) es))
kept-ascend true low e es le up = (le, up)
kept-ascend false low e es le up = lower low e.1.0 (map (λ x. x.1) es) le up

pub under-ascend : (place : Option ℕ) (low : ℕ) (es : List Noted) → AscendFrom low (map (λ x. x.1) es) → AscendFrom low (under es place)
under-ascend None low es up = tt
under-ascend (Some m) low [] up = tt
under-ascend (Some m) low (e ∷ es) up = kept-ascend (is_eq (nat_cmp e.0 m)) low e (filter (λ x. is_eq (nat_cmp x.0 m)) es) up.0 (under-ascend (Some m) e.1.0 es up.1)

push-up : (low high : ℕ) (es : List Noted) (key : ℕ) (known : Known) → AscendFrom low (map (λ x. x.1) es) → AllByRecursion (λ e. e.1.0 ≤ high) es → low ≤ high
    → AscendFrom low (map (λ x. x.1) (es ++ (key, (high, known)) ∷ []))
push-up low high [] key known up all le = (le, tt)
push-up low high (e ∷ es) key known up all le = (up.0, push-up e.1.0 high es key known up.1 all.1 all.0)

push-within : (high : ℕ) (es : List Noted) (key : ℕ) (known : Known) → AllByRecursion (λ e. e.1.0 ≤ high) es → AllByRecursion (λ e. e.1.0 ≤ high) (es ++ (key, (high, known)) ∷ [])
push-within high [] key known all = (omega arith, tt)
push-within high (e ∷ es) key known all = (all.0, push-within high es key known all.1)

push-ascend : (high : ℕ) (es : List Noted) (key : ℕ) (known : Known) → AscendTo es high → AscendTo (es ++ (key, (high, known)) ∷ []) high
push-ascend high es key known a = record { up = push-up 0 high es key known a.up a.within (omega arith); within = push-within high es key known a.within }

wider : (low high : ℕ) (es : List Noted) → low ≤ high → AllByRecursion (λ e. e.1.0 ≤ low) es → AllByRecursion (λ e. e.1.0 ≤ high) es
wider low high [] le all = tt
wider low high (e ∷ es) le all = (omega (arith, le, all.0), wider low high es le all.1)

pub ascend-further : (low high : ℕ) (es : List Noted) → low ≤ high → AscendTo es low → AscendTo es high
ascend-further low high es le a = record { up = a.up; within = wider low high es le a.within }

pub beside-none : {Z : Type 0} (index : ℕ) (numbers : List ℕ) (sets : List (Arc Known Z)) → length sets ≡ 0 → beside index numbers (map (λ a. arc_value a) sets) ≡ []
beside-none index [] sets none = refl
beside-none index (n ∷ numbers) [] none = refl
beside-none index (n ∷ numbers) (known ∷ sets) none = absurd (omega (arith, none))

-- sets of one advisory more
pub beside-ascend : (high : ℕ) (es : List Noted) (numbers : List ℕ) (sets : List Known) → AscendTo es high → AscendTo (es ++ beside high numbers sets) high
beside-ascend high es [] sets a = subst (λ (xs : List Noted). AscendTo xs high) (sym (append-nil es)) a
beside-ascend high es (n ∷ numbers) [] a = subst (λ (xs : List Noted). AscendTo xs high) (sym (append-nil es)) a
beside-ascend high es (n ∷ numbers) (known ∷ sets) a =
    subst (λ (xs : List Noted). AscendTo xs high) (append_assoc es ((n, (high, known)) ∷ []) (beside high numbers sets))
    (beside-ascend high (es ++ (n, (high, known)) ∷ []) numbers sets (push-ascend high es n known a))
