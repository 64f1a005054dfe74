-- What a form contains is what its range does.
use Rattle.std.proofs.Common.{◌≡◌, ℕ, Bool, true, false, cond, List, [], ◌∷◌, map, Option, Some, None, Ordering, refl, sym, ap, ◌∙◌}
use Rattle.std.specs.Prelude.{option_map}
use Rattle.std.specs.Option.{option_and_then, option_map_or}
use Rattle.osv_prim.specs.Events.{is_endless, is_lowest}
use Rattle.osv_prim.specs.declared.bound.Bound.{Bound}
use Rattle.osv_prim.specs.declared.bound.Bound.TheVariants.{Lowest, At, Endless}
use Rattle.osv_prim.specs.declared.event.Event.{Event}
use Rattle.osv_prim.specs.declared.event.EventKind.{EventKind}
use Rattle.osv_record.specs.Advisories.{Extent}
use Rattle.version_order.specs.Bounds.{bound_of, bounds_of, is_in, is_contained, contains_text}
use Rattle.version_order.specs.Orders.{order_of}
use Rattle.version_order.specs.Versions.{reading, version_cmp}
use Rattle.version_order.specs.declared.order.Order.{Order}
use Rattle.version_order.specs.declared.version.Version.{Version}
use Rattle.evaluate.specs.Hits.{range_contains}
use Rattle.range_hits.specs.Bounds.{bound_in, bounds_in, IsForm, IsCompiled}
use Rattle.range_hits.specs.Forms.{is_key_in}
use Rattle.range_hits.proofs.Among as among

module _ {K : Type 0} (kcmp : K → K → Ordering) (read : List ℕ → Option K) (into : K → Version) (order : Order)
    (same : (a b : K) → version_cmp (into a) (into b) ≡ kcmp a b) (reads : (text : List ℕ) → reading order text ≡ option_map into (read text)) where
  abbrev bound_as : Bound K → Bound Version
  bound_as = among.bound_as kcmp version_cmp into same

  abbrev event_as : EventKind × Bound K → EventKind × Bound Version
  event_as e = (e.0, bound_as e.1)

  one-bound : (a b : Bool) (key : Option K)
      → cond a (Some Lowest) (cond b (Some Endless) (option_map At (option_map into key))) ≡ option_map bound_as (cond a (Some Lowest) (cond b (Some Endless) (option_map At key)))
  one-bound true b key = refl
  one-bound false true key = refl
  one-bound false false None = refl
  one-bound false false (Some k) = refl

  bound-same : (e : Event) → bound_of order e ≡ option_map bound_as (bound_in read e)
  bound-same e =
      ap (λ (o : Option Version). cond (is_lowest e) (Some Lowest) (cond (is_endless e) (Some Endless) (option_map At o))) (reads e.value) ∙ one-bound (is_lowest e) (is_endless e) (read e.value)

  one-more : (kind : EventKind) (b : Option (Bound K)) (bs : Option (List (EventKind × Bound K)))
      → option_and_then (λ b. option_map (λ bs. (kind, b) ∷ bs) (option_map (map event_as) bs)) (option_map bound_as b) ≡ option_map (map event_as) (option_and_then (λ b. option_map (λ bs. (kind, b) ∷ bs) bs) b)
  one-more kind None bs = refl
  one-more kind (Some b) None = refl
  one-more kind (Some b) (Some bs) = refl

  bounds-same : (es : List Event) → bounds_of order es ≡ option_map (map event_as) (bounds_in read es)
  bounds-same [] = refl
  bounds-same (e ∷ es) =
      ap (λ (o : Option (List (EventKind × Bound Version))). option_and_then (λ b. option_map (λ bs. (e.kind, b) ∷ bs) o) (bound_of order e)) (bounds-same es)
      ∙ ap (λ (o : Option (Bound Version)). option_and_then (λ b. option_map (λ bs. (e.kind, b) ∷ bs) (option_map (map event_as) (bounds_in read es))) o) (bound-same e)
      ∙ one-more e.kind (bound_in read e) (bounds_in read es)

  key-in : (es : List Event) (bounds : List (EventKind × Bound K)) → bounds_in read es ≡ Some bounds → (key : Option K) → is_key_in kcmp bounds key ≡ is_contained order es (option_map into key)
  key-in es bounds is None = refl
  key-in es bounds is (Some k) =
      sym (ap (λ (o : Option (List (EventKind × Bound Version))). is_in (into k) o) (bounds-same es ∙ ap (option_map (map event_as)) is) ∙ among.in_range-same kcmp version_cmp into same k bounds)

  pub text-in : (es : List Event) (bounds : List (EventKind × Bound K)) → bounds_in read es ≡ Some bounds → (text : List ℕ) → is_key_in kcmp bounds (read text) ≡ contains_text order es text
  text-in es bounds is text = key-in es bounds is (read text) ∙ ap (is_contained order es) (sym (reads text))

  none-in : (es : List Event) → bounds_in read es ≡ None → (v : Option Version) → is_contained order es v ≡ false
  none-in es is None = refl
  none-in es is (Some v) = ap (λ (o : Option (List (EventKind × Bound Version))). is_in v o) (bounds-same es ∙ ap (option_map (map event_as)) is)

  pub range-in : (ecosystem : List ℕ) (extent : Extent) (bounds : List (EventKind × Bound K)) → order_of extent.kind ecosystem ≡ Some order → bounds_in read extent.events ≡ Some bounds
      → (text : List ℕ) → is_key_in kcmp bounds (read text) ≡ range_contains ecosystem text extent
  range-in ecosystem extent bounds ordered is text =
      text-in extent.events bounds is text ∙ sym (ap (λ (o : Option Order). option_map_or (λ order. contains_text order extent.events text) o false) ordered)

  pub range-none : (ecosystem : List ℕ) (extent : Extent) → order_of extent.kind ecosystem ≡ Some order → bounds_in read extent.events ≡ None
      → (text : List ℕ) → range_contains ecosystem text extent ≡ false
  range-none ecosystem extent ordered is text =
      ap (λ (o : Option Order). option_map_or (λ order. contains_text order extent.events text) o false) ordered ∙ none-in extent.events is (reading order text)

pub no-order : (ecosystem : List ℕ) (extent : Extent) → order_of extent.kind ecosystem ≡ None → (text : List ℕ) → range_contains ecosystem text extent ≡ false
no-order ecosystem extent none text = ap (λ (o : Option Order). option_map_or (λ order. contains_text order extent.events text) o false) none
