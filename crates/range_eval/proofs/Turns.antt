-- The events that turn the flag leave it as all events do.
use Rattle.std.proofs.Common.{◌≡◌, inl, inr, ℕ, zero, suc, ◌-◌, ◌<◌, ◌≤◌, arith, Bool, true, false, not, cond, List, [], ◌∷◌, length, get_or, Ordering, Less, Equal, Greater, refl, sym, ap, subst, ◌∙◌}
use Rattle.std.specs.Cmp.{IsTotalOrder}
use Rattle.std.specs.List.{AllWithin}
use Rattle.std.specs.List.Sorted.{IsPartitionedBy, IsPartitionPoint}
use Rattle.std.specs.Ordering.{is_gt, is_lt, ordering_then}
use Rattle.std.proofs.lemmas.Bool.{false≢true}
use Rattle.osv_prim.specs.Ranges.{against, bound_cmp, event_cmp, flag_after, flag_from, is_limit}
use Rattle.osv_prim.specs.declared.bound.Bound.{Bound}
use Rattle.osv_prim.specs.declared.bound.Bound.TheVariants.{At}
use Rattle.osv_prim.specs.declared.event.EventKind.{EventKind}
use Rattle.osv_prim.specs.declared.event.EventKind.TheVariants.{Introduced, Fixed, LastAffected, Limit}
use Rattle.range_eval.specs.Compiled.{turns, turns_flag}
use Rattle.range_eval.specs.Latest.{IsAmong, acts, introduces}
use Rattle.range_eval.proofs.Chains.{by_true, ge_from_gt, ge_le, ge_lt, gt_le}
use Rattle.range_eval.proofs.Flag.{after_acts}
use Rattle.range_eval.proofs.Orders.{bound_total}
use Rattle.range_eval.proofs.Sorts.{Ascends, NotBefore}

-- ---- an event acts where a later one does

first_not_gt : (r s : Ordering) → is_gt (ordering_then r s) ≡ false → is_gt r ≡ false
first_not_gt Less s h = refl
first_not_gt Equal s h = refl
first_not_gt Greater s h = h

strictly : (r : Ordering) → is_gt (ordering_then r Greater) ≡ false → is_lt r ≡ true
strictly Less h = refl
strictly Equal h = absurd (false≢true (sym h))
strictly Greater h = absurd (false≢true (sym h))

acts_before : {T : Type 0} (cmp : T → T → Ordering) → IsTotalOrder cmp → (v : T) (j k : EventKind) (b c : Bound T) → is_limit j ≡ false → is_gt (event_cmp cmp (j, b) (k, c)) ≡ false → acts cmp v k c ≡ true
    → acts cmp v j b ≡ true
acts_before cmp o v Introduced Introduced b c n le a = ge_le (bound_total cmp o) (At v) c b a (first_not_gt (bound_cmp cmp b c) _ le)
acts_before cmp o v Introduced Fixed b c n le a = ge_le (bound_total cmp o) (At v) c b a (first_not_gt (bound_cmp cmp b c) _ le)
acts_before cmp o v Introduced LastAffected b c n le a = ge_le (bound_total cmp o) (At v) c b (ge_from_gt (against cmp v c) a) (first_not_gt (bound_cmp cmp b c) _ le)
acts_before cmp o v Introduced Limit b c n le a = absurd (false≢true a)
acts_before cmp o v Fixed Introduced b c n le a = ge_le (bound_total cmp o) (At v) c b a (first_not_gt (bound_cmp cmp b c) _ le)
acts_before cmp o v Fixed Fixed b c n le a = ge_le (bound_total cmp o) (At v) c b a (first_not_gt (bound_cmp cmp b c) _ le)
acts_before cmp o v Fixed LastAffected b c n le a = ge_le (bound_total cmp o) (At v) c b (ge_from_gt (against cmp v c) a) (first_not_gt (bound_cmp cmp b c) _ le)
acts_before cmp o v Fixed Limit b c n le a = absurd (false≢true a)
acts_before cmp o v LastAffected Introduced b c n le a = ge_lt (bound_total cmp o) (At v) c b a (strictly (bound_cmp cmp b c) le)
acts_before cmp o v LastAffected Fixed b c n le a = ge_lt (bound_total cmp o) (At v) c b a (strictly (bound_cmp cmp b c) le)
acts_before cmp o v LastAffected LastAffected b c n le a = gt_le (bound_total cmp o) (At v) c b a (first_not_gt (bound_cmp cmp b c) _ le)
acts_before cmp o v LastAffected Limit b c n le a = absurd (false≢true a)
acts_before cmp o v Limit k b c n le a = absurd (false≢true (sym n))

-- ---- where none acts

quiet : {T : Type 0} (cmp : T → T → Ordering) (v : T) (flag : Bool) (es : List (EventKind × Bound T)) → ((x : EventKind × Bound T) → IsAmong x es → acts cmp v x.0 x.1 ≡ false) → flag_from cmp v flag es ≡ flag
quiet cmp v flag [] h = refl
quiet cmp v flag (e ∷ es) h =
    ap (λ (f : Bool). flag_from cmp v f es) (after_acts cmp v flag e.0 e.1 ∙ ap (λ (b : Bool). cond b (introduces e.0) flag) (h e (inl refl)))
    ∙ quiet cmp v flag es (λ x m. h x (inr m))

turns_among : {T : Type 0} (x e : EventKind × Bound T) (es ts us : List (EventKind × Bound T)) (b : Bool) → (IsAmong x ts → IsAmong x es) → (IsAmong x us → IsAmong x es) → IsAmong x (cond b (e ∷ ts) us) → IsAmong x (e ∷ es)
turns_among x e es ts us true h k (inl is) = inl is
turns_among x e es ts us true h k (inr m) = inr (h m)
turns_among x e es ts us false h k m = inr (k m)

among-turns : {T : Type 0} (x : EventKind × Bound T) (flag : Bool) (es : List (EventKind × Bound T)) → IsAmong x (turns flag es) → IsAmong x es
among-turns x flag [] m = m
among-turns x flag (e ∷ es) m = turns_among x e es (turns (not flag) es) (turns flag es) (turns_flag flag e.0) (among-turns x (not flag) es) (among-turns x flag es) m

-- ---- the flag that turns leave

either_way : (b c : Bool) → cond b c c ≡ c
either_way true c = refl
either_way false c = refl

unturned : {T : Type 0} (cmp : T → T → Ordering) (v : T) (flag : Bool) (k : EventKind) (b : Bound T) → turns_flag flag k ≡ false → flag_after cmp v flag k b ≡ flag
unturned cmp v true Introduced b h = either_way _ true
unturned cmp v false Introduced b h = absurd (false≢true (sym h))
unturned cmp v true Fixed b h = absurd (false≢true (sym h))
unturned cmp v false Fixed b h = either_way _ false
unturned cmp v true LastAffected b h = absurd (false≢true (sym h))
unturned cmp v false LastAffected b h = either_way _ false
unturned cmp v flag Limit b h = refl

turned : (flag : Bool) (k : EventKind) → turns_flag flag k ≡ true → introduces k ≡ not flag
turned true Introduced h = absurd (false≢true h)
turned false Introduced h = refl
turned true Fixed h = refl
turned false Fixed h = absurd (false≢true h)
turned true LastAffected h = refl
turned false LastAffected h = absurd (false≢true h)
turned flag Limit h = absurd (false≢true h)

no_limit : (flag : Bool) (k : EventKind) → turns_flag flag k ≡ true → is_limit k ≡ false
no_limit flag Introduced h = refl
no_limit flag Fixed h = refl
no_limit flag LastAffected h = refl
no_limit flag Limit h = absurd (false≢true h)

-- an event that turns the flag stands before events of which none is before it
acted_step : {T : Type 0} (cmp : T → T → Ordering) → IsTotalOrder cmp → (v : T) (flag : Bool) (e : EventKind × Bound T) (es : List (EventKind × Bound T)) (b : Bool) → acts cmp v e.0 e.1 ≡ b
    → turns_flag flag e.0 ≡ true → NotBefore cmp e es → flag_from cmp v (not flag) (turns (not flag) es) ≡ flag_from cmp v (not flag) es
    → flag_from cmp v (cond b (introduces e.0) flag) (turns (not flag) es) ≡ flag_from cmp v (cond b (introduces e.0) flag) es
acted_step cmp o v flag e es true is t up h =
    subst (λ (f : Bool). flag_from cmp v f (turns (not flag) es) ≡ flag_from cmp v f es) (sym (turned flag e.0 t)) h
acted_step {T = T} cmp o v flag e es false is t up h =
    let none : (x : EventKind × Bound T) → IsAmong x es → acts cmp v x.0 x.1 ≡ false =
    λ x m. by_true (acts cmp v x.0 x.1) (λ a. false≢true (sym is ∙ acts_before cmp o v e.0 x.0 e.1 x.1 (no_limit flag e.0 t) (up x m) a)) in
    quiet cmp v flag (turns (not flag) es) (λ x m. none x (among-turns x (not flag) es m)) ∙ sym (quiet cmp v flag es none)

turns_step : {T : Type 0} (cmp : T → T → Ordering) → IsTotalOrder cmp → (v : T) (flag : Bool) (e : EventKind × Bound T) (es : List (EventKind × Bound T)) (b : Bool) → turns_flag flag e.0 ≡ b
    → NotBefore cmp e es → ((f : Bool) → flag_from cmp v f (turns f es) ≡ flag_from cmp v f es)
    → flag_from cmp v flag (cond b (e ∷ turns (not flag) es) (turns flag es)) ≡ flag_from cmp v (flag_after cmp v flag e.0 e.1) es
turns_step cmp o v flag e es true is up h =
    subst (λ (f : Bool). flag_from cmp v f (turns (not flag) es) ≡ flag_from cmp v f es) (sym (after_acts cmp v flag e.0 e.1))
    (acted_step cmp o v flag e es (acts cmp v e.0 e.1) refl is up (h (not flag)))
turns_step cmp o v flag e es false is up h = h flag ∙ ap (λ (f : Bool). flag_from cmp v f es) (sym (unturned cmp v flag e.0 e.1 is))

pub same_flag : {T : Type 0} (cmp : T → T → Ordering) → IsTotalOrder cmp → (v : T) (es : List (EventKind × Bound T)) (flag : Bool) → Ascends cmp es → flag_from cmp v flag (turns flag es) ≡ flag_from cmp v flag es
same_flag cmp o v [] flag a = refl
same_flag cmp o v (e ∷ es) flag a = turns_step cmp o v flag e es (turns_flag flag e.0) refl a.0 (λ f. same_flag cmp o v es f a.1)

-- ---- turns are in order

abbrev Parted : {T : Type 0} → (T → T → Ordering) → T → List (EventKind × Bound T) → Type 0
Parted cmp v [] = Unit {0}
Parted {T = T} cmp v (e ∷ es) = ((x : EventKind × Bound T) → IsAmong x es → acts cmp v x.0 x.1 ≡ true → acts cmp v e.0 e.1 ≡ true) × Parted cmp v es

parted_step : {T : Type 0} (cmp : T → T → Ordering) → IsTotalOrder cmp → (v : T) (flag : Bool) (e : EventKind × Bound T) (es : List (EventKind × Bound T)) (b : Bool) → turns_flag flag e.0 ≡ b
    → NotBefore cmp e es → ((f : Bool) → Parted cmp v (turns f es)) → Parted cmp v (cond b (e ∷ turns (not flag) es) (turns flag es))
parted_step cmp o v flag e es true is up h =
    (λ x m a. acts_before cmp o v e.0 x.0 e.1 x.1 (no_limit flag e.0 is) (up x (among-turns x (not flag) es m)) a, h (not flag))
parted_step cmp o v flag e es false is up h = h flag

turns_parted : {T : Type 0} (cmp : T → T → Ordering) → IsTotalOrder cmp → (v : T) (es : List (EventKind × Bound T)) (flag : Bool) → Ascends cmp es → Parted cmp v (turns flag es)
turns_parted cmp o v [] flag a = tt
turns_parted cmp o v (e ∷ es) flag a = parted_step cmp o v flag e es (turns_flag flag e.0) refl a.0 (λ f. turns_parted cmp o v es f a.1)

among-get_or : {X : Type 0} (xs : List X) (i : ℕ) (d : X) → i < length xs → IsAmong (get_or xs i d) xs
among-get_or [] i d lt = absurd (omega arith)
among-get_or (x ∷ xs) zero d lt = inl refl
among-get_or (x ∷ xs) (suc i) d lt = inr (among-get_or xs i d (omega arith))

partitioned : {T : Type 0} (cmp : T → T → Ordering) (v : T) (xs : List (EventKind × Bound T)) → Parted cmp v xs → IsPartitionedBy (λ (e : EventKind × Bound T). acts cmp v e.0 e.1) xs
partitioned cmp v [] p i j d le lt a = absurd (omega arith)
partitioned cmp v (e ∷ es) p zero zero d le lt a = a
partitioned cmp v (e ∷ es) p zero (suc j) d le lt a = p.0 (get_or es j d) (among-get_or es j d (omega arith)) a
partitioned cmp v (e ∷ es) p (suc i) zero d le lt a = absurd (omega arith)
partitioned cmp v (e ∷ es) p (suc i) (suc j) d le lt a = partitioned cmp v es p.1 i j d (omega arith) (omega arith) a

pub in_order : {T : Type 0} (cmp : T → T → Ordering) → IsTotalOrder cmp → (v : T) (es : List (EventKind × Bound T)) → Ascends cmp es → IsPartitionedBy (λ (e : EventKind × Bound T). acts cmp v e.0 e.1) (turns false es)
in_order cmp o v es a = partitioned cmp v (turns false es) (turns_parted cmp o v es false a)

-- ---- the last of those that act

among-all : {X : Type 0} (Q : X → Type 0) (xs : List X) → AllWithin Q xs 0 (length xs) → (x : X) → IsAmong x xs → Q x
among-all Q [] a x m = absurd m
among-all Q (y ∷ ys) a x (inl is) = subst Q (sym is) (a 0 x (omega arith) (omega arith))
among-all Q (y ∷ ys) a x (inr m) = among-all Q ys (λ k d low high. a (suc k) d (omega arith) (omega arith)) x m

abbrev Acts : {T : Type 0} → (T → T → Ordering) → T → Bool → EventKind × Bound T → Type 0
Acts cmp v b e = acts cmp v e.0 e.1 ≡ b

abbrev flag_at : {T : Type 0} → Bool → List (EventKind × Bound T) → ℕ → EventKind × Bound T → Bool
flag_at flag xs zero d = flag
flag_at flag xs (suc n) d = introduces (get_or xs n d).0

at_point : {T : Type 0} (cmp : T → T → Ordering) (v : T) (flag : Bool) (xs : List (EventKind × Bound T)) (n : ℕ) (d : EventKind × Bound T) → n ≤ length xs → IsPartitionPoint (Acts cmp v true) (Acts cmp v false) xs n
    → flag_from cmp v flag xs ≡ flag_at flag xs n d
at_point cmp v flag xs zero d le p = quiet cmp v flag xs (among-all (Acts cmp v false) xs p.1)
at_point cmp v flag [] (suc n) d le p = absurd (omega arith)
at_point cmp v flag (e ∷ es) (suc zero) d le p =
    ap (λ (f : Bool). flag_from cmp v f es) (after_acts cmp v flag e.0 e.1 ∙ ap (λ (b : Bool). cond b (introduces e.0) flag) (p.0 0 d (omega arith) (omega arith)))
    ∙ quiet cmp v (introduces e.0) es (among-all (Acts cmp v false) es (λ k d low high. p.1 (suc k) d (omega arith) (omega arith)))
at_point cmp v flag (e ∷ es) (suc (suc n)) d le p =
    at_point cmp v (flag_after cmp v flag e.0 e.1) es (suc n) d (omega arith)
    (λ k d low high. p.0 (suc k) d (omega arith) (omega arith), λ k d low high. p.1 (suc k) d (omega arith) (omega arith))

pub flag-some : {T : Type 0} (cmp : T → T → Ordering) (v : T) (xs : List (EventKind × Bound T)) (n : ℕ) (d : EventKind × Bound T) → 0 < n → n ≤ length xs → IsPartitionPoint (Acts cmp v true) (Acts cmp v false) xs n
    → introduces (get_or xs (n - 1) d).0 ≡ flag_from cmp v false xs
flag-some cmp v xs zero d lt le p = absurd (omega arith)
flag-some cmp v xs (suc n) d lt le p = let one : suc n - 1 ≡ n = omega arith in ap (λ (k : ℕ). introduces (get_or xs k d).0) one ∙ sym (at_point cmp v false xs (suc n) d le p)

pub flag-none : {T : Type 0} (cmp : T → T → Ordering) (v : T) (xs : List (EventKind × Bound T)) (n : ℕ) → n ≡ 0 → IsPartitionPoint (Acts cmp v true) (Acts cmp v false) xs n → false ≡ flag_from cmp v false xs
flag-none cmp v xs n is p = sym (quiet cmp v false xs (among-all (Acts cmp v false) xs (subst (λ (k : ℕ). AllWithin (Acts cmp v false) xs k (length xs)) is p.1)))
