-- A stable sort by the key keeps the values of each key, and the keys and values apart are the entries.
use Rattle.std.proofs.Common.{◌≡◌, ◌+◌, ◌<◌, not, ◌&&◌, List, [], ◌∷◌, ◌++◌, length, map, get_or, refl, sym, ap, subst, ◌∙◌, arith, append-nil}
use Rattle.std.specs.List.{zip}
use Rattle.std.specs.List.Sorted.{IsPermutation, IsSorted, IsSortedByKey, IsStableBy, ties}
use Rattle.std.specs.Ordering.{is_eq, is_lt, ordering_reverse}
use Rattle.std.specs.Cmp.{IsTotalOrder}
use Rattle.std.specs.declared.cmp.Ordering.{Ordering}
use Rattle.std.specs.declared.cmp.Ordering.TheVariants.{Less, Equal, Greater}
use Rattle.std.proofs.lemmas.List.{get_or-map, length-map}
use Rattle.std.proofs.lemmas.List.Elements.{filter_agree}
use Rattle.std.proofs.lemmas.List.Sorted.{length_permutation}
use Rattle.multimap.specs.Entries.{values_of, IsInOrder}

neither-side : (o : Ordering) → (not (is_lt (ordering_reverse o)) && not (is_lt o)) ≡ is_eq o
neither-side Less = refl
neither-side Equal = refl
neither-side Greater = refl

none-left : {X : Type 0} (ys : List X) → length ys ≡ 0 → ys ≡ []
none-left [] h = refl
none-left (y ∷ ys) h = absurd (omega (arith, h))

module _ {K V : Type 0} (cmp : K → K → Ordering) (total : IsTotalOrder cmp) where
  pub values-stable : (xs ys : List (K × V)) → IsPermutation xs ys → IsStableBy (λ a b. is_lt (cmp a.0 b.0)) xs ys → (key : K) → values_of cmp ys key ≡ values_of cmp xs key
  values-stable [] ys moved stable key = ap (λ (es : List (K × V)). values_of cmp es key) (none-left ys (length_permutation [] ys moved))
  values-stable (e ∷ xs) ys moved stable key =
      ap (λ (es : List (K × V)). map (λ (x : K × V). x.1) es)
      (filter_agree (λ x. is_eq (cmp x.0 key)) (ties (λ a b. is_lt (cmp a.0 b.0)) (key, e.1)) (λ x. sym (tied x)) ys ∙ stable (key, e.1)
      ∙ filter_agree (ties (λ a b. is_lt (cmp a.0 b.0)) (key, e.1)) (λ x. is_eq (cmp x.0 key)) tied (e ∷ xs))
    where
      tied : (x : K × V) → ties (λ a b. is_lt (cmp a.0 b.0)) (key, e.1) x ≡ is_eq (cmp x.0 key)
      tied x = ap (λ (o : Ordering). not (is_lt o) && not (is_lt (cmp x.0 key))) (total.antisymm key x.0) ∙ neither-side (cmp x.0 key)

  pub keys-ascend : (es : List (K × V)) → IsSortedByKey (λ e. e.0) cmp es → IsSorted cmp (map (λ e. e.0) es)
  keys-ascend [] up k d low lt = absurd (omega (arith, lt))
  keys-ascend (e ∷ es) up k d low lt =
      let all = e ∷ es in
      let within : k + 1 < length all = omega (arith, lt, length-map all (λ (x : K × V). x.0)) in
      ap (λ (a : K). is_lt (cmp a (get_or (map (λ (x : K × V). x.0) all) k d))) (get_or-map (λ (x : K × V). x.0) all (k + 1) e d within)
      ∙ ap (λ (b : K). is_lt (cmp (get_or all (k + 1) e).0 b)) (get_or-map (λ (x : K × V). x.0) all k e d (omega (arith, within)))
      ∙ up k e low within

zipped : {K V : Type 0} (es : List (K × V)) → zip (map (λ e. e.0) es) (map (λ e. e.1) es) ≡ es
zipped [] = refl
zipped {K} {V} (e ∷ es) = ap (λ (xs : List (K × V)). e ∷ xs) (zipped es)

-- what is kept of entries in order
pub in-order : {K V : Type 0} (cmp : K → K → Ordering) → IsTotalOrder cmp → (es : List (K × V)) → IsSortedByKey (λ e. e.0) cmp es → (keys : List K) (values : List V)
    → keys ≡ map (λ e. e.0) es → values ≡ map (λ e. e.1) es → IsInOrder cmp keys values
in-order {K} {V} cmp total es up keys values keys_are values_are =
    record {
      ascending = subst (IsSorted cmp) (sym keys_are) (keys-ascend cmp total es up);
      size = ap (λ (xs : List V). length xs) values_are ∙ length-map es (λ (e : K × V). e.1) ∙ sym (length-map es (λ (e : K × V). e.0)) ∙ ap (λ (xs : List K). length xs) (sym keys_are);
    }

pub zipped-are : {K V : Type 0} (es : List (K × V)) (keys : List K) (values : List V) → keys ≡ map (λ e. e.0) es → values ≡ map (λ e. e.1) es → zip keys values ≡ es
zipped-are {K} {V} es keys values keys_are values_are =
    ap (λ (ks : List K). zip ks values) keys_are ∙ ap (λ (vs : List V). zip (map (λ (e : K × V). e.0) es) vs) values_are ∙ zipped es

-- what was taken of entries of which none is left
pub all-taken : {X Y : Type 0} (f : X → Y) (rest : List X) → length rest ≡ 0 → (taken whole : List Y) → taken ++ map f rest ≡ whole → taken ≡ whole
all-taken f [] none taken whole is = sym (append-nil taken) ∙ is
all-taken f (x ∷ rest) none taken whole is = absurd (omega (arith, none))
