-- The values of a key in entries that are put together.
use Rattle.std.proofs.Common.{◌≡◌, Bool, true, false, cond, List, [], ◌∷◌, ◌++◌, map, filter, is_eq, refl, ap, ◌∙◌}
use Rattle.std.specs.declared.cmp.Ordering.{Ordering}
use Rattle.std.proofs.lemmas.List.{map-append}
use Rattle.std.proofs.lemmas.List.Elements.{filter-append}
use Rattle.multimap.specs.Entries.{values_of}

module _ {K V : Type 0} (cmp : K → K → Ordering) where
  pub values_of-append : (es more : List (K × V)) (key : K) → values_of cmp (es ++ more) key ≡ values_of cmp es key ++ values_of cmp more key
  values_of-append es more key =
      ap (map (λ (e : K × V). e.1)) (filter-append (λ (e : K × V). is_eq (cmp e.0 key)) es more)
      ∙ map-append (λ (e : K × V). e.1) (filter (λ (e : K × V). is_eq (cmp e.0 key)) es) (filter (λ (e : K × V). is_eq (cmp e.0 key)) more)

  one : (b : Bool) (k : K) (v : V) → map (λ (e : K × V). e.1) (cond b ((k, v) ∷ []) []) ≡ cond b (v ∷ []) []
  one true k v = refl
  one false k v = refl

  -- one entry more
  pub values_of-push : (es : List (K × V)) (k : K) (v : V) (key : K) → values_of cmp (es ++ (k, v) ∷ []) key ≡ values_of cmp es key ++ cond (is_eq (cmp k key)) (v ∷ []) []
  values_of-push es k v key = values_of-append es ((k, v) ∷ []) key ∙ ap (λ (xs : List V). values_of cmp es key ++ xs) (one (is_eq (cmp k key)) k v)
