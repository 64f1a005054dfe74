-- One limit for all.
use Rattle.std.proofs.Common.{◌≡◌, Bool, true, false, not, cond, ◌&&◌, ◌||◌, List, [], ◌∷◌, Some, None, Ordering, refl, sym, ap, ◌∙◌}
use Rattle.std.specs.Cmp.{IsTotalOrder}
use Rattle.std.specs.List.{list_any}
use Rattle.std.specs.List.Sorted.{IsPermutation}
use Rattle.std.specs.Ordering.{is_gt, is_lt}
use Rattle.std.proofs.lemmas.List.Sorted.{list_any-IsPermutation}
use Rattle.osv_prim.specs.Ranges.{against, bound_cmp, is_limit, is_within_limits}
use Rattle.osv_prim.specs.declared.bound.Bound.{Bound}
use Rattle.osv_prim.specs.declared.bound.Bound.TheVariants.{At}
use Rattle.osv_prim.specs.declared.event.EventKind.{EventKind}
use Rattle.range_eval.specs.Compiled.{greatest, is_before, limit_from}
use Rattle.range_eval.proofs.Chains.{lt_le, not_gt_from_gt}
use Rattle.range_eval.proofs.Orders.{bound_total}

absorbs_first : (p q : Bool) → (p ≡ true → q ≡ true) → q ≡ (p || q)
absorbs_first true q h = h refl
absorbs_first false q h = refl

absorbs_second : (p q : Bool) → (q ≡ true → p ≡ true) → p ≡ (p || q)
absorbs_second true q h = refl
absorbs_second false true h = h refl
absorbs_second false false h = refl

or_regroup : (p q r : Bool) → ((p || q) || r) ≡ (p || (q || r))
or_regroup true q r = refl
or_regroup false q r = refl

greatest_step : {T : Type 0} (cmp : T → T → Ordering) → IsTotalOrder cmp → (v : T) (c b : Bound T) (g : Bool) → is_gt (bound_cmp cmp b c) ≡ g
    → is_lt (against cmp v (cond g b c)) ≡ (is_lt (against cmp v c) || is_lt (against cmp v b))
greatest_step cmp o v c b true is =
    let t = bound_total cmp o in
    absorbs_first (is_lt (against cmp v c)) (is_lt (against cmp v b)) (λ h. lt_le t (At v) c b h (not_gt_from_gt t b c is))
greatest_step cmp o v c b false is =
    absorbs_second (is_lt (against cmp v c)) (is_lt (against cmp v b)) (λ h. lt_le (bound_total cmp o) (At v) b c h is)

abbrev is_before_one : {T : Type 0} → (T → T → Ordering) → T → List (EventKind × Bound T) → Bool
is_before_one cmp v es = list_any (λ e. is_limit e.0 && is_lt (against cmp v e.1)) es

some_step : {T : Type 0} (cmp : T → T → Ordering) → IsTotalOrder cmp → (v : T) (c b : Bound T) (es : List (EventKind × Bound T)) (l : Bool)
    → ((d : Bound T) → is_before cmp v (limit_from cmp (Some d) es) ≡ (is_lt (against cmp v d) || is_before_one cmp v es))
    → is_before cmp v (cond l (limit_from cmp (Some (greatest cmp (Some c) b)) es) (limit_from cmp (Some c) es)) ≡ (is_lt (against cmp v c) || ((l && is_lt (against cmp v b)) || is_before_one cmp v es))
some_step cmp o v c b es true h =
    h (greatest cmp (Some c) b) ∙ ap (λ (x : Bool). x || is_before_one cmp v es) (greatest_step cmp o v c b (is_gt (bound_cmp cmp b c)) refl)
    ∙ or_regroup (is_lt (against cmp v c)) (is_lt (against cmp v b)) (is_before_one cmp v es)
some_step cmp o v c b es false h = h c

limit-some : {T : Type 0} (cmp : T → T → Ordering) → IsTotalOrder cmp → (v : T) (es : List (EventKind × Bound T)) (c : Bound T) → is_before cmp v (limit_from cmp (Some c) es) ≡ (is_lt (against cmp v c) || is_before_one cmp v es)
limit-some cmp o v [] c = absorbs_second (is_lt (against cmp v c)) false (λ h. absurd cc)
limit-some cmp o v (e ∷ es) c = some_step cmp o v c e.1 es (is_limit e.0) (limit-some cmp o v es)

none_step : {T : Type 0} (cmp : T → T → Ordering) → IsTotalOrder cmp → (v : T) (b : Bound T) (es : List (EventKind × Bound T)) (l : Bool)
    → is_before cmp v (limit_from cmp None es) ≡ is_within_limits cmp v es
    → is_before cmp v (cond l (limit_from cmp (Some b) es) (limit_from cmp None es)) ≡ (not (l || list_any (λ (e : EventKind × Bound T). is_limit e.0) es) || ((l && is_lt (against cmp v b)) || is_before_one cmp v es))
none_step cmp o v b es true h = limit-some cmp o v es b
none_step cmp o v b es false h = h

limit-none : {T : Type 0} (cmp : T → T → Ordering) → IsTotalOrder cmp → (v : T) (es : List (EventKind × Bound T)) → is_before cmp v (limit_from cmp None es) ≡ is_within_limits cmp v es
limit-none cmp o v [] = refl
limit-none cmp o v (e ∷ es) = none_step cmp o v e.1 es (is_limit e.0) (limit-none cmp o v es)

pub same_limit : {T : Type 0} (cmp : T → T → Ordering) → IsTotalOrder cmp → (v : T) (es fs : List (EventKind × Bound T)) → IsPermutation es fs → is_before cmp v (limit_from cmp None fs) ≡ is_within_limits cmp v es
same_limit {T = T} cmp o v es fs p =
    let limits = list_any-IsPermutation (λ (e : EventKind × Bound T). is_limit e.0) es fs p in
    let before = list_any-IsPermutation (λ (e : EventKind × Bound T). is_limit e.0 && is_lt (against cmp v e.1)) es fs p in
    limit-none cmp o v fs ∙ ap (λ (l : Bool). not l || is_before_one cmp v fs) (sym limits) ∙ ap (λ (b : Bool). not (list_any (λ (e : EventKind × Bound T). is_limit e.0) es) || b) (sym before)
