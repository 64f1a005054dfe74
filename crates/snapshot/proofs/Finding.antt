-- The advisory of an id, among those that ascend.
use Rattle.std.proofs.Common.{◌≡◌, ℕ, true, false, List, [], ◌∷◌, ◌++◌, Ordering, Less, Greater, is_eq, bytes_eq, map, refl, sym, ap, subst, ◌∙◌}
use Rattle.std.specs.Prelude.{Option, Some, None, IfSome}
use Rattle.std.specs.Option.{option_to_list}
use Rattle.std.proofs.lemmas.Map.Text.{is_eq-slice_cmp}
use Rattle.osv_record.specs.Advisories.{Advisory}
use Rattle.history.specs.declared.past.Past.{Past}
use Rattle.history.specs.Prefixes.{records}
use Rattle.history.specs.Lookups.{with_id, record_of}
use Rattle.evaluate.proofs.Ascending.{by_id, turned, Below}
use Rattle.impact_job.specs.Order.{Ascend, IsSplit}
use Rattle.id_index.specs.Found.{IsFoundIn}
use Rattle.impact_job.proofs.Parting.{Under}
use Rattle.impact_job.proofs.Merging.{itself}
use Rattle.impact_job.proofs.Prefixes.{kept-ascend}

apart : (a b : List ℕ) (o : Ordering) → by_id a b ≡ o → is_eq o ≡ false → bytes_eq a b ≡ false
apart a b o e n = sym (is_eq-slice_cmp a b) ∙ ap is_eq e ∙ n

over_below : (id : List ℕ) (below rest : List Advisory) → Under below id → with_id id (below ++ rest) ≡ with_id id rest
over_below id [] rest u = refl
over_below id (x ∷ xs) rest u =
    let other : bytes_eq id x.id ≡ false = apart id x.id Greater (turned x.id id Less u.0) refl in
    rw other (over_below id xs rest u.1)

none-above : (id : List ℕ) (above : List Advisory) → Below id above → with_id id above ≡ None
none-above id [] b = refl
none-above id (x ∷ xs) b =
    let other : bytes_eq id x.id ≡ false = apart id x.id Less b.0 refl in
    rw other (none-above id xs b.1)

at_rest : (id : List ℕ) (found : Option Advisory) (above : List Advisory) → IfSome found (λ r. r.id ≡ id) → Below id above → with_id id (option_to_list found ++ above) ≡ found
at_rest id None above s b = none-above id above b
at_rest id (Some r) above s b =
    let same : bytes_eq id r.id ≡ true = subst (λ (k : List ℕ). bytes_eq id k ≡ true) (sym s) (sym (is_eq-slice_cmp id id) ∙ ap is_eq (itself id)) in
    rw same refl

pub found-is : (id : List ℕ) (xs below : List Advisory) (found : Option Advisory) (above : List Advisory) → IsSplit id xs below found above → found ≡ with_id id xs
found-is id xs below found above s =
    sym (at_rest id found above s.same s.over) ∙ sym (over_below id below (option_to_list found ++ above) s.under) ∙ ap (λ (ys : List Advisory). with_id id ys) (sym s.whole)

pub found-in : {A : Type 0} (see : A → Advisory) (xs : List A) (p : List Past) (id : List ℕ) (found : Option Advisory) → map see xs ≡ records p
    → (Ascend (map see xs) → IsFoundIn id (map see xs) found) → found ≡ record_of p id
found-in see xs p id found kept is =
    let f = is (subst (λ (ys : List Advisory). Ascend ys) (sym kept) (kept-ascend p)) in
    found-is id (map see xs) f.below found f.above f.split ∙ ap (λ (ys : List Advisory). with_id id ys) kept
