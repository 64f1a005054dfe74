-- A package is noted under its whole ecosystem and its base, which is what matching asks for.
use Rattle.std.proofs.Common.{◌≡◌, ℕ, ◌<◌, ◌≤◌, inl, inr, Bool, true, false, not, ◌&&◌, ◌||◌, List, [], ◌∷◌, ◌++◌, length, take, get_or, ◌+◌, refl, sym, ap, ◌∙◌, arith}
use Rattle.std.specs.List.{list_any, position_or_len}
use Rattle.std.specs.Str.{bytes_eq}
use Rattle.std.proofs.lemmas.Bool.{cases_Bool}
use Rattle.std.proofs.lemmas.List.{length-take, get_or-take, take_all, take_more}
use Rattle.std.proofs.lemmas.List.Folds.{list_any_none, list_any-append}
use Rattle.std.proofs.lemmas.List.Sums.{fails_before_first}
use Rattle.std.proofs.lemmas.Slice.Eq.{bytes_eq-Decides}
use Rattle.osv_prim.specs.Packages.{base, is_colon}

no-colon : (w : List ℕ) → list_any is_colon (base w) ≡ false
no-colon w =
    list_any_none is_colon (base w)
    (λ i d lt.
    let low : i < position_or_len is_colon w = omega (arith, lt, length-take (position_or_len is_colon w) w) in
    ap is_colon (get_or-take (position_or_len is_colon w) w i d low) ∙ fails_before_first is_colon w i d low)

pub whole-base : (w : List ℕ) → length w ≤ length (base w) → base w ≡ w
whole-base w le = take_all (position_or_len is_colon w) w (omega (arith, le, length-take (position_or_len is_colon w) w))

and_no : (a : Bool) → (a && false) ≡ false
and_no true = refl
and_no false = refl

or-same : (a : Bool) → a ≡ (a || a)
or-same true = refl
or-same false = refl

-- an asked ecosystem that is a base has no colon
base-asked : (w e : List ℕ) → (not (list_any is_colon e) && bytes_eq e (base w)) ≡ bytes_eq e (base w)
base-asked w e =
    elim (cases_Bool (bytes_eq e (base w))) [
      | inl same ↦ ap (λ (b : Bool). not b && bytes_eq e (base w)) (ap (list_any is_colon) ((bytes_eq-Decides e (base w)).0 same) ∙ no-colon w)
      | inr other ↦ ap (λ (b : Bool). not (list_any is_colon e) && b) other ∙ and_no (not (list_any is_colon e)) ∙ sym other
    ]

two-notes : (x n w b c : Bool) → ((x || ((n && w) && c)) || ((n && b) && c)) ≡ (x || ((n && (w || b)) && c))
two-notes true n w b c = refl
two-notes false false w b c = refl
two-notes false true true b true = refl
two-notes false true true true false = refl
two-notes false true true false false = refl
two-notes false true false b c = refl

module _ (x : Bool) (name t w e : List ℕ) (c : Bool) where
  abbrev pub match_is : Bool
  match_is = bytes_eq name t && (bytes_eq e w || (not (list_any is_colon e) && bytes_eq e (base w)))

  pub both-noted : ((x || ((bytes_eq name t && bytes_eq e w) && c)) || ((bytes_eq name t && bytes_eq e (base w)) && c)) ≡ (x || (match_is && c))
  both-noted =
      two-notes x (bytes_eq name t) (bytes_eq e w) (bytes_eq e (base w)) c ∙ ap (λ (b : Bool). x || ((bytes_eq name t && (bytes_eq e w || b)) && c)) (sym (base-asked w e))

  -- where the base is the whole
  pub whole-noted : base w ≡ w → (x || ((bytes_eq name t && bytes_eq e w) && c)) ≡ (x || (match_is && c))
  whole-noted is =
      ap (λ (b : Bool). x || ((bytes_eq name t && b) && c))
      (or-same (bytes_eq e w) ∙ ap (λ (b : List ℕ). bytes_eq e w || bytes_eq e b) (sym is) ∙ ap (λ (b : Bool). bytes_eq e w || b) (sym (base-asked w e)))

pub more-entries : (x a h c : Bool) → ((x || (a && c)) || (h && c)) ≡ (x || ((a || h) && c))
more-entries true a h c = refl
more-entries false true h true = refl
more-entries false true true false = refl
more-entries false true false false = refl
more-entries false false h c = refl

or-none : (a : Bool) → (a || false) ≡ a
or-none true = refl
or-none false = refl

-- an entry more
pub any-more : {X : Type 0} (p : X → Bool) (xs : List X) (k : ℕ) (x : X) → k < length xs → x ≡ get_or xs k x → list_any p (take (k + 1) xs) ≡ (list_any p (take k xs) || p x)
any-more {X} p xs k x lt is =
    ap (list_any p) (take_more xs k x lt ∙ ap (λ (y : X). take k xs ++ y ∷ []) (sym is)) ∙ list_any-append p (take k xs) (x ∷ []) ∙ ap (λ (b : Bool). list_any p (take k xs) || b) (or-none (p x))
