-- The flag at the end is what the latest event that acts leaves.
use Rattle.std.proofs.Common.{◌≡◌, ◌⊎◌, inl, inr, ℕ, ◌+◌, ◌<◌, Bool, true, false, cond, ◌&&◌, eqb, List, [], ◌∷◌, ◌++◌, length, take, get_or, Option, Some, None, Ordering, Less, Equal, Greater, nat_cmp, refl, sym, ap, subst, ◌∙◌}
use Rattle.std.specs.Cmp.{IsTotalOrder, tied_itself, upto}
use Rattle.std.specs.Ordering.{is_gt, ordering_reverse, ordering_then}
use Rattle.std.proofs.lemmas.Bool.{false≢true}
use Rattle.std.proofs.lemmas.Cmp.{ranked}
use Rattle.std.proofs.lemmas.List.{take_more}
use Rattle.osv_prim.specs.Ranges.{bound_cmp, event_cmp, flag_after, flag_from, kind_rank, sorted}
use Rattle.osv_prim.specs.declared.bound.Bound.{Bound}
use Rattle.osv_prim.specs.declared.event.EventKind.{EventKind}
use Rattle.osv_prim.specs.declared.event.EventKind.TheVariants.{Introduced, Fixed, LastAffected, Limit}
use Rattle.range_eval.specs.Latest.{IsAmong, IsLatest, acts, introduces, is_after, is_introduced, later}
use Rattle.range_eval.proofs.Orders.{event_total}
use Rattle.range_eval.proofs.Sorts.{Ascends, NotBefore, among-from_sorted, among-sorted, ascends-sorted}

-- ---- the last of a list that acts

abbrev flag_of : {T : Type 0} → Bool → Option (EventKind × Bound T) → Bool
flag_of flag None = flag
flag_of flag (Some e) = introduces e.0

abbrev or_else : {X : Type 0} → Option X → Option X → Option X
or_else None m = m
or_else (Some l) m = Some l

abbrev last_of : {T : Type 0} → (T → T → Ordering) → T → List (EventKind × Bound T) → Option (EventKind × Bound T)
last_of cmp v [] = None
last_of cmp v (e ∷ es) = or_else (last_of cmp v es) (cond (acts cmp v e.0 e.1) (Some e) None)

pub after_acts : {T : Type 0} (cmp : T → T → Ordering) (v : T) (flag : Bool) (k : EventKind) (b : Bound T) → flag_after cmp v flag k b ≡ cond (acts cmp v k b) (introduces k) flag
after_acts cmp v flag Introduced b = refl
after_acts cmp v flag Fixed b = refl
after_acts cmp v flag LastAffected b = refl
after_acts cmp v flag Limit b = refl

flag_step : {T : Type 0} (flag : Bool) (e : EventKind × Bound T) (b : Bool) (m : Option (EventKind × Bound T)) → flag_of (cond b (introduces e.0) flag) m ≡ flag_of flag (or_else m (cond b (Some e) None))
flag_step flag e true None = refl
flag_step flag e false None = refl
flag_step flag e b (Some l) = refl

flag-last : {T : Type 0} (cmp : T → T → Ordering) (v : T) (flag : Bool) (es : List (EventKind × Bound T)) → flag_from cmp v flag es ≡ flag_of flag (last_of cmp v es)
flag-last cmp v flag [] = refl
flag-last cmp v flag (e ∷ es) =
    flag-last cmp v (flag_after cmp v flag e.0 e.1) es
    ∙ ap (λ (f : Bool). flag_of f (last_of cmp v es)) (after_acts cmp v flag e.0 e.1)
    ∙ flag_step flag e (acts cmp v e.0 e.1) (last_of cmp v es)

clear : {T : Type 0} (m : Option (EventKind × Bound T)) → flag_of false m ≡ is_introduced m
clear None = refl
clear (Some e) = refl

-- ---- in a list that ascends it is the latest

latest_step : {T : Type 0} (cmp : T → T → Ordering) → IsTotalOrder cmp → (v : T) (e : EventKind × Bound T) (es : List (EventKind × Bound T)) (b : Bool) (m : Option (EventKind × Bound T))
    → acts cmp v e.0 e.1 ≡ b → NotBefore cmp e es → IsLatest cmp v es m → IsLatest cmp v (e ∷ es) (or_else m (cond b (Some e) None))
latest_step {T = T} cmp o v e es b (Some l) is up h = (
  inr h.0,
  h.1,
  λ x m a. elim m [
    | inl s ↦ subst (λ (y : EventKind × Bound T). is_gt (event_cmp cmp y l) ≡ false) (sym s) (up l h.0)
    | inr r ↦ h.2 x r a
  ],
)
latest_step {T = T} cmp o v e es true None is up h = (
  inl refl,
  is,
  λ x m a. elim m [
    | inl s ↦ subst (λ (y : EventKind × Bound T). is_gt (event_cmp cmp y e) ≡ false) (sym s) (ap is_gt (tied_itself (event_total cmp o) e))
    | inr r ↦ absurd (false≢true (sym (h x r) ∙ a))
  ],
)
latest_step {T = T} cmp o v e es false None is up h =
    λ x m. elim m [
      | inl s ↦ subst (λ (y : EventKind × Bound T). acts cmp v y.0 y.1 ≡ false) (sym s) is
      | inr r ↦ h x r
    ]

latest-last : {T : Type 0} (cmp : T → T → Ordering) → IsTotalOrder cmp → (v : T) (es : List (EventKind × Bound T)) → Ascends cmp es → IsLatest cmp v es (last_of cmp v es)
latest-last cmp o v [] a = λ e m. absurd m
latest-last cmp o v (e ∷ es) a = latest_step cmp o v e es (acts cmp v e.0 e.1) (last_of cmp v es) refl a.0 (latest-last cmp o v es a.1)

-- ---- lists with the same events have the same latest, up to ties

equal_from : (r s : Ordering) → r ≡ ordering_reverse s → is_gt r ≡ false → is_gt s ≡ false → r ≡ Equal
equal_from r Less e p q = absurd (false≢true (sym p ∙ ap is_gt e))
equal_from r Equal e p q = e
equal_from r Greater e p q = absurd (false≢true (sym q))

second_equal : (r s : Ordering) → ordering_then r s ≡ Equal → s ≡ Equal
second_equal Less s e = absurd cc
second_equal Equal s e = e
second_equal Greater s e = absurd cc

by_rank : (k : EventKind) → introduces k ≡ eqb (kind_rank k) 0
by_rank Introduced = refl
by_rank Fixed = refl
by_rank LastAffected = refl
by_rank Limit = refl

same_kind : (j k : EventKind) → nat_cmp (kind_rank j) (kind_rank k) ≡ Equal → introduces j ≡ introduces k
same_kind j k e =
    let is : kind_rank j ≡ kind_rank k = ranked (kind_rank j) (kind_rank k) Equal (sym e) in
    by_rank j ∙ ap (λ (n : ℕ). eqb n 0) is ∙ sym (by_rank k)

one_latest : {T : Type 0} (cmp : T → T → Ordering) → IsTotalOrder cmp → (v : T) (es fs : List (EventKind × Bound T)) (l m : Option (EventKind × Bound T))
    → ((x : EventKind × Bound T) → IsAmong x es → IsAmong x fs) → ((x : EventKind × Bound T) → IsAmong x fs → IsAmong x es) → IsLatest cmp v es l → IsLatest cmp v fs m → is_introduced l ≡ is_introduced m
one_latest cmp o v es fs None None to from p q = refl
one_latest cmp o v es fs None (Some m) to from p q = absurd (false≢true (sym (p m (from m q.0)) ∙ q.1))
one_latest cmp o v es fs (Some l) None to from p q = absurd (false≢true (sym (q l (to l p.0)) ∙ p.1))
one_latest cmp o v es fs (Some l) (Some m) to from p q =
    let tie = equal_from (event_cmp cmp l m) (event_cmp cmp m l) ((event_total cmp o).antisymm l m) (q.2 l (to l p.0) p.1) (p.2 m (from m q.0) q.1) in
    same_kind l.0 m.0 (second_equal (bound_cmp cmp l.1 m.1) (nat_cmp (kind_rank l.0) (kind_rank m.0)) tie)

flag-latest_of : {T : Type 0} (cmp : T → T → Ordering) (v : T) (es : List (EventKind × Bound T)) → flag_from cmp v false es ≡ is_introduced (last_of cmp v es)
flag-latest_of cmp v es = flag-last cmp v false es ∙ clear (last_of cmp v es)

-- of any list that ascends and has these events
pub flag-latest : {T : Type 0} (cmp : T → T → Ordering) → IsTotalOrder cmp → (v : T) (es : List (EventKind × Bound T)) (m : Option (EventKind × Bound T)) → IsLatest cmp v es m
    → flag_from cmp v false (sorted cmp es) ≡ is_introduced m
flag-latest cmp o v es m h =
    flag-latest_of cmp v (sorted cmp es)
    ∙ one_latest cmp o v (sorted cmp es) es (last_of cmp v (sorted cmp es)) m (λ x. among-from_sorted cmp x es) (λ x. among-sorted cmp x es)
    (latest-last cmp o v (sorted cmp es) (ascends-sorted cmp o es)) h

pub one_flag : {T : Type 0} (cmp : T → T → Ordering) → IsTotalOrder cmp → (v : T) (es fs : List (EventKind × Bound T)) → Ascends cmp es → Ascends cmp fs
    → ((x : EventKind × Bound T) → IsAmong x es → IsAmong x fs) → ((x : EventKind × Bound T) → IsAmong x fs → IsAmong x es) → flag_from cmp v false es ≡ flag_from cmp v false fs
one_flag cmp o v es fs a b to from =
    flag-latest_of cmp v es ∙ one_latest cmp o v es fs (last_of cmp v es) (last_of cmp v fs) to from (latest-last cmp o v es a) (latest-last cmp o v fs b) ∙ sym (flag-latest_of cmp v fs)

-- ---- one more event

pub among-left : {X : Type 0} (x : X) (xs ys : List X) → IsAmong x xs → IsAmong x (xs ++ ys)
among-left x [] ys m = absurd m
among-left x (y ∷ xs) ys (inl is) = inl is
among-left x (y ∷ xs) ys (inr m) = inr (among-left x xs ys m)

pub among-push : {X : Type 0} (xs : List X) (x : X) → IsAmong x (xs ++ x ∷ [])
among-push [] x = inl refl
among-push (y ∷ xs) x = inr (among-push xs x)

pub among-push_cases : {X : Type 0} (x : X) (xs : List X) (y : X) → IsAmong x (xs ++ y ∷ []) → IsAmong x xs ⊎ (x ≡ y)
among-push_cases x [] y (inl is) = inr is
among-push_cases x [] y (inr m) = absurd m
among-push_cases x (z ∷ xs) y (inl is) = inl (inl is)
among-push_cases x (z ∷ xs) y (inr m) = elim (among-push_cases x xs y m) [ inl r ↦ inl (inr r) | inr is ↦ inr is ]

below_turned : (r s : Ordering) → r ≡ ordering_reverse s → is_gt s ≡ true → is_gt r ≡ false
below_turned r Less e p = absurd (false≢true p)
below_turned r Equal e p = absurd (false≢true p)
below_turned r Greater e p = ap is_gt e

more_step : {T : Type 0} (cmp : T → T → Ordering) → IsTotalOrder cmp → (v : T) (es : List (EventKind × Bound T)) (e : EventKind × Bound T) (m : Option (EventKind × Bound T)) (a b : Bool)
    → acts cmp v e.0 e.1 ≡ a → is_after cmp e m ≡ b → IsLatest cmp v es m → IsLatest cmp v (es ++ e ∷ []) (cond (a && b) (Some e) m)
more_step {T = T} cmp o v es e None false b is af h =
    λ x m. elim (among-push_cases x es e m) [
      | inl r ↦ h x r
      | inr s ↦ subst (λ (y : EventKind × Bound T). acts cmp v y.0 y.1 ≡ false) (sym s) is
    ]
more_step {T = T} cmp o v es e (Some l) false b is af h = (
  among-left l es (e ∷ []) h.0,
  h.1,
  λ x m a. elim (among-push_cases x es e m) [
    | inl r ↦ h.2 x r a
    | inr s ↦ absurd (false≢true (sym is ∙ subst (λ (y : EventKind × Bound T). acts cmp v y.0 y.1 ≡ true) s a))
  ],
)
more_step {T = T} cmp o v es e None true true is af h = (
  among-push es e,
  is,
  λ x m a. elim (among-push_cases x es e m) [
    | inl r ↦ absurd (false≢true (sym (h x r) ∙ a))
    | inr s ↦ subst (λ (y : EventKind × Bound T). is_gt (event_cmp cmp y e) ≡ false) (sym s) (ap is_gt (tied_itself (event_total cmp o) e))
  ],
)
more_step {T = T} cmp o v es e None true false is af h = absurd (false≢true (sym af))
more_step {T = T} cmp o v es e (Some l) true true is af h =
    let t = event_total cmp o in
    let below : is_gt (event_cmp cmp l e) ≡ false = below_turned (event_cmp cmp l e) (event_cmp cmp e l) (t.antisymm l e) af in (
      among-push es e,
      is,
      λ x m a. elim (among-push_cases x es e m) [
        | inl r ↦ upto t x l e (h.2 x r a) below
        | inr s ↦ subst (λ (y : EventKind × Bound T). is_gt (event_cmp cmp y e) ≡ false) (sym s) (ap is_gt (tied_itself t e))
      ],
    )
more_step {T = T} cmp o v es e (Some l) true false is af h = (
  among-left l es (e ∷ []) h.0,
  h.1,
  λ x m a. elim (among-push_cases x es e m) [
    | inl r ↦ h.2 x r a
    | inr s ↦ subst (λ (y : EventKind × Bound T). is_gt (event_cmp cmp y l) ≡ false) (sym s) af
  ],
)

pub one_more : {T : Type 0} (cmp : T → T → Ordering) → IsTotalOrder cmp → (v : T) (es : List (EventKind × Bound T)) (e : EventKind × Bound T) (m : Option (EventKind × Bound T))
    → IsLatest cmp v es m → IsLatest cmp v (es ++ e ∷ []) (later cmp v e m)
one_more cmp o v es e m h = more_step cmp o v es e m (acts cmp v e.0 e.1) (is_after cmp e m) refl refl h

pub next_latest : {T : Type 0} (cmp : T → T → Ordering) → IsTotalOrder cmp → (v : T) (es : List (EventKind × Bound T)) (i : ℕ) (e : EventKind × Bound T) (m n : Option (EventKind × Bound T))
    → i < length es → e ≡ get_or es i e → n ≡ later cmp v e m → IsLatest cmp v (take i es) m → IsLatest cmp v (take (i + 1) es) n
next_latest {T = T} cmp o v es i e m n lt at is h =
    let more : take (i + 1) es ≡ take i es ++ e ∷ [] = take_more es i e lt ∙ ap (λ (x : EventKind × Bound T). take i es ++ x ∷ []) (sym at) in
    subst (λ (l : Option (EventKind × Bound T)). IsLatest cmp v (take (i + 1) es) l) (sym is)
    (subst (λ (xs : List (EventKind × Bound T)). IsLatest cmp v xs (later cmp v e m)) (sym more) (one_more cmp o v (take i es) e m h))
