-- Events in order.
use Rattle.std.proofs.Common.{◌≡◌, ◌⊎◌, inl, inr, Bool, true, false, cond, List, [], ◌∷◌, Ordering, Less, Equal, Greater, refl, sym, subst, ◌∙◌}
use Rattle.std.specs.Cmp.{IsTotalOrder, upto}
use Rattle.std.specs.Ordering.{is_gt, is_lt}
use Rattle.std.proofs.lemmas.Bool.{false≢true}
use Rattle.osv_prim.specs.Ranges.{event_cmp, placed, sorted}
use Rattle.osv_prim.specs.declared.bound.Bound.{Bound}
use Rattle.osv_prim.specs.declared.event.EventKind.{EventKind}
use Rattle.range_eval.specs.Latest.{IsAmong}
use Rattle.range_eval.proofs.Chains.{gt_turned}
use Rattle.range_eval.proofs.Orders.{event_total}

-- ---- what is among the sorted ones

among_step : {X : Type 0} (x e y : X) (xs ys : List X) (b : Bool) → (IsAmong x ys → (x ≡ e) ⊎ IsAmong x xs) → IsAmong x (cond b (y ∷ ys) (e ∷ y ∷ xs)) → (x ≡ e) ⊎ IsAmong x (y ∷ xs)
among_step x e y xs ys true h (inl is) = inr (inl is)
among_step x e y xs ys true h (inr m) = elim (h m) [ inl is ↦ inl is | inr r ↦ inr (inr r) ]
among_step x e y xs ys false h m = m

among-from_placed : {T : Type 0} (cmp : T → T → Ordering) (x e : EventKind × Bound T) (xs : List (EventKind × Bound T)) → IsAmong x (placed cmp e xs) → (x ≡ e) ⊎ IsAmong x xs
among-from_placed cmp x e [] m = m
among-from_placed cmp x e (y ∷ xs) m = among_step x e y xs (placed cmp e xs) (is_lt (event_cmp cmp y e)) (among-from_placed cmp x e xs) m

placed_step : {X : Type 0} (x e y : X) (xs ys : List X) (b : Bool) → ((x ≡ e) ⊎ IsAmong x xs → IsAmong x ys) → (x ≡ e) ⊎ IsAmong x (y ∷ xs) → IsAmong x (cond b (y ∷ ys) (e ∷ y ∷ xs))
placed_step x e y xs ys true h (inl is) = inr (h (inl is))
placed_step x e y xs ys true h (inr (inl is)) = inl is
placed_step x e y xs ys true h (inr (inr m)) = inr (h (inr m))
placed_step x e y xs ys false h m = m

among-placed : {T : Type 0} (cmp : T → T → Ordering) (x e : EventKind × Bound T) (xs : List (EventKind × Bound T)) → (x ≡ e) ⊎ IsAmong x xs → IsAmong x (placed cmp e xs)
among-placed cmp x e [] m = m
among-placed cmp x e (y ∷ xs) m = placed_step x e y xs (placed cmp e xs) (is_lt (event_cmp cmp y e)) (among-placed cmp x e xs) m

pub among-from_sorted : {T : Type 0} (cmp : T → T → Ordering) (x : EventKind × Bound T) (es : List (EventKind × Bound T)) → IsAmong x (sorted cmp es) → IsAmong x es
among-from_sorted cmp x [] m = m
among-from_sorted cmp x (e ∷ es) m = elim (among-from_placed cmp x e (sorted cmp es) m) [ inl is ↦ inl is | inr r ↦ inr (among-from_sorted cmp x es r) ]

pub among-sorted : {T : Type 0} (cmp : T → T → Ordering) (x : EventKind × Bound T) (es : List (EventKind × Bound T)) → IsAmong x es → IsAmong x (sorted cmp es)
among-sorted cmp x [] m = m
among-sorted cmp x (e ∷ es) (inl is) = among-placed cmp x e (sorted cmp es) (inl is)
among-sorted cmp x (e ∷ es) (inr m) = among-placed cmp x e (sorted cmp es) (inr (among-sorted cmp x es m))

-- ---- they ascend

-- none of these is before the event
abbrev pub NotBefore : {T : Type 0} → (T → T → Ordering) → EventKind × Bound T → List (EventKind × Bound T) → Type 0
NotBefore {T = T} cmp e es = (x : EventKind × Bound T) → IsAmong x es → is_gt (event_cmp cmp e x) ≡ false

abbrev pub Ascends : {T : Type 0} → (T → T → Ordering) → List (EventKind × Bound T) → Type 0
Ascends cmp [] = Unit {0}
Ascends cmp (e ∷ es) = NotBefore cmp e es × Ascends cmp es

not_gt : (r : Ordering) → is_lt r ≡ true → is_gt r ≡ false
not_gt Less e = refl
not_gt Equal e = refl
not_gt Greater e = absurd (false≢true e)

ascends_step : {T : Type 0} (cmp : T → T → Ordering) → IsTotalOrder cmp → (e y : EventKind × Bound T) (ys : List (EventKind × Bound T)) (b : Bool) → is_lt (event_cmp cmp y e) ≡ b
    → NotBefore cmp y ys → Ascends cmp ys → Ascends cmp (placed cmp e ys) → Ascends cmp (cond b (y ∷ placed cmp e ys) (e ∷ y ∷ ys))
ascends_step {T = T} cmp o e y ys true is head rest later = (
  λ x m. elim (among-from_placed cmp x e ys m) [
    | inl s ↦ subst (λ (z : EventKind × Bound T). is_gt (event_cmp cmp y z) ≡ false) (sym s) (not_gt (event_cmp cmp y e) is)
    | inr r ↦ head x r
  ],
  later,
)
ascends_step {T = T} cmp o e y ys false is head rest later =
    let t = event_total cmp o in
    let up : is_gt (event_cmp cmp e y) ≡ false = gt_turned (event_cmp cmp e y) (event_cmp cmp y e) (t.antisymm e y) ∙ is in (
      λ x m. elim m [
        | inl s ↦ subst (λ (z : EventKind × Bound T). is_gt (event_cmp cmp e z) ≡ false) (sym s) up
        | inr r ↦ upto t e y x up (head x r)
      ],
      (head, rest),
    )

ascends-placed : {T : Type 0} (cmp : T → T → Ordering) → IsTotalOrder cmp → (e : EventKind × Bound T) (xs : List (EventKind × Bound T)) → Ascends cmp xs → Ascends cmp (placed cmp e xs)
ascends-placed cmp o e [] a = (λ x m. absurd m, tt)
ascends-placed cmp o e (y ∷ ys) a = ascends_step cmp o e y ys (is_lt (event_cmp cmp y e)) refl a.0 a.1 (ascends-placed cmp o e ys a.1)

pub ascends-sorted : {T : Type 0} (cmp : T → T → Ordering) → IsTotalOrder cmp → (es : List (EventKind × Bound T)) → Ascends cmp (sorted cmp es)
ascends-sorted cmp o [] = tt
ascends-sorted cmp o (e ∷ es) = ascends-placed cmp o e (sorted cmp es) (ascends-sorted cmp o es)
