-- An advisory that is there, among advisories that ascend by their ids.
use Rattle.std.proofs.Common.{◌≡◌, ℕ, zero, suc, List, [], ◌∷◌, true, Ordering, Less, Equal, Greater, is_eq, refl, sym, ap, subst, ◌∙◌}
use Rattle.std.specs.Prelude.{Some, None, slice_get}
use Rattle.std.proofs.lemmas.Option.{same_Some}
use Rattle.osv_record.specs.Advisories.{Advisory}
use Rattle.evaluate.proofs.Ascending.{by_id, one_id, Below, Ascending}
use Rattle.id_index.specs.Found.{IsFoundIn}

equal : (o : Ordering) → is_eq o ≡ true → o ≡ Equal
equal Less e = absurd cc
equal Equal e = refl
equal Greater e = absurd cc

pub one_of : (a b : List ℕ) → is_eq (by_id a b) ≡ true → a ≡ b
one_of a b e = one_id a b (equal (by_id a b) e)

below-there : (k id : List ℕ) (xs : List Advisory) (place : ℕ) (r : Advisory) → Below k xs → slice_get xs place ≡ Some r → r.id ≡ id → by_id k id ≡ Less
below-there k id [] place r p e s = absurd cc
below-there k id (x ∷ xs) zero r p e s =
    let f : x ≡ r = same_Some x r e in
    subst (λ (i : List ℕ). by_id k i ≡ Less) (ap (λ (y : Advisory). y.id) f ∙ s) p.0
below-there k id (x ∷ xs) (suc place) r p e s = below-there k id xs place r p.1 e s

-- it parts them
pub there : (id : List ℕ) (xs : List Advisory) (place : ℕ) (r : Advisory) → Ascending xs → slice_get xs place ≡ Some r → r.id ≡ id → IsFoundIn id xs (Some r)
there id [] place r a e s = absurd cc
there id (x ∷ xs) zero r a e s =
    let f : x ≡ r = same_Some x r e in
    record {
      below = [];
      above = xs;
      split = record {
        whole = ap (λ (y : Advisory). y ∷ xs) f;
        under = tt;
        same = s;
        over = subst (λ (i : List ℕ). Below i xs) (ap (λ (y : Advisory). y.id) f ∙ s) a.0;
      };
    }
there id (x ∷ xs) (suc place) r a e s =
    let rest = there id xs place r a.1 e s in
    record {
      below = x ∷ rest.below;
      above = rest.above;
      split = record {
        whole = ap (λ (ys : List Advisory). x ∷ ys) rest.split.whole;
        under = (below-there x.id id xs place r a.0 e s, rest.split.under);
        same = rest.split.same;
        over = rest.split.over;
      };
    }
