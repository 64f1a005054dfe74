-- What is made of sorted events stands for their range.
use Rattle.std.proofs.Common.{◌≡◌, inl, inr, ℕ, zero, suc, ◌+◌, ◌<◌, arith, Bool, true, false, ◌&&◌, List, [], ◌∷◌, ◌++◌, length, take, get_or, None, Result, Ok, Err, Ordering, sym, ap, subst, ◌∙◌}
use Rattle.std.specs.Prelude.{Contains, IfOk}
use Rattle.std.specs.Cmp.{IsTotalOrder, upto}
use Rattle.std.specs.List.Sorted.{IsPartitionedBy, IsPermutation, IsSorted, IsSortedBy}
use Rattle.std.specs.Ordering.{is_gt, is_lt}
use Rattle.std.proofs.Math.Seq.{take-append_seam}
use Rattle.std.proofs.lemmas.List.Sorted.{Contains-permutation, IsPermutation-sym, length_permutation}
use Rattle.osv_prim.specs.Ranges.{event_cmp, flag_from, in_range, sorted}
use Rattle.osv_prim.specs.declared.bound.Bound.{Bound}
use Rattle.osv_prim.specs.declared.event.EventKind.{EventKind}
use Rattle.osv_prim.specs.declared.memory.Memory.{Memory}
use Rattle.range_eval.specs.Compiled.{StandsFor, is_before, limit_from, turns}
use Rattle.range_eval.specs.Latest.{IsAmong, acts}
use Rattle.range_eval.specs.declared.compiled.Compiled.{Compiled}
use Rattle.range_eval.proofs.Chains.{gt_turned}
use Rattle.range_eval.proofs.Flag.{one_flag}
use Rattle.range_eval.proofs.Limits.{same_limit}
use Rattle.range_eval.proofs.Orders.{event_total}
use Rattle.range_eval.proofs.Sorts.{Ascends, among-from_sorted, among-sorted, ascends-sorted}
use Rattle.range_eval.proofs.Turns.{in_order, same_flag}

among-from_contains : {X : Type 0} (xs : List X) (x : X) (k : ℕ) → k < length xs → get_or xs k x ≡ x → IsAmong x xs
among-from_contains [] x k lt e = absurd (omega arith)
among-from_contains (y ∷ ys) x zero lt e = inl (sym e)
among-from_contains (y ∷ ys) x (suc k) lt e = inr (among-from_contains ys x k (omega arith) e)

contains-among : {X : Type 0} (xs : List X) (x : X) → IsAmong x xs → Contains xs x
contains-among [] x m = absurd m
contains-among (y ∷ ys) x (inl is) = (0, omega arith, sym is)
contains-among (y ∷ ys) x (inr m) = let c = contains-among ys x m in (suc c.0, (let lt : c.0 < length ys = c.1 in omega arith), c.2)

among-permutation : {X : Type 0} (xs ys : List X) (x : X) → IsPermutation xs ys → IsAmong x xs → IsAmong x ys
among-permutation xs ys x p m = let c = Contains-permutation xs ys x p (contains-among xs x m) in among-from_contains ys x c.0 c.1 c.2

ascends_step : {T : Type 0} (cmp : T → T → Ordering) → IsTotalOrder cmp → (e f : EventKind × Bound T) (es : List (EventKind × Bound T)) → is_gt (event_cmp cmp e f) ≡ false → Ascends cmp (f ∷ es) → Ascends cmp (e ∷ f ∷ es)
ascends_step {T = T} cmp o e f es le a = (
  λ x m. elim m [
    | inl is ↦ subst (λ (y : EventKind × Bound T). is_gt (event_cmp cmp e y) ≡ false) (sym is) le
    | inr r ↦ upto (event_total cmp o) e f x le (a.0 x r)
  ],
  a,
)

others_sorted : {X : Type 0} (lt : X → X → Bool) (x : X) (xs : List X) → IsSortedBy lt (x ∷ xs) → IsSortedBy lt xs
others_sorted lt x xs s = λ k d low high.
    let next : suc k + 1 ≡ suc (k + 1) = omega arith in
    subst (λ (n : ℕ). lt (get_or (x ∷ xs) n d) (get_or xs k d) ≡ false) next (s (suc k) d (omega arith) (omega arith))

ascends-from_sort : {T : Type 0} (cmp : T → T → Ordering) → IsTotalOrder cmp → (es : List (EventKind × Bound T)) → IsSorted (event_cmp cmp) es → Ascends cmp es
ascends-from_sort cmp o [] s = tt
ascends-from_sort cmp o (e ∷ []) s = (λ x m. absurd m, tt)
ascends-from_sort cmp o (e ∷ f ∷ es) s =
    let le = gt_turned (event_cmp cmp e f) (event_cmp cmp f e) ((event_total cmp o).antisymm e f) ∙ s 0 e (omega arith) (omega arith) in
    ascends_step cmp o e f es le (ascends-from_sort cmp o (f ∷ es) (others_sorted (λ a b. is_lt (event_cmp cmp a b)) e (f ∷ es) s))

stands : {T : Type 0} (cmp : T → T → Ordering) → IsTotalOrder cmp → (c : Compiled T) (es fs : List (EventKind × Bound T)) → IsPermutation es fs → IsSorted (event_cmp cmp) fs
    → c.turns.items ≡ turns false fs → c.limit ≡ limit_from cmp None fs → StandsFor cmp c es
stands {T = T} cmp o c es fs p s of_turns of_limit =
    let up = ascends-from_sort cmp o fs s in
    record {
      same_flag = λ v.
          ap (flag_from cmp v false) of_turns ∙ same_flag cmp o v fs false up
          ∙ one_flag cmp o v fs (sorted cmp es) up (ascends-sorted cmp o es)
          (λ x m. among-sorted cmp x es (among-permutation fs es x (IsPermutation-sym es fs p) m))
          (λ x m. among-permutation es fs x p (among-from_sorted cmp x es m));
      in_order = λ v. subst (λ (xs : List (EventKind × Bound T)). IsPartitionedBy (λ (e : EventKind × Bound T). acts cmp v e.0 e.1) xs) (sym of_turns) (in_order cmp o v fs up);
      same_limit = λ v. ap (λ l. is_before cmp v l) of_limit ∙ same_limit cmp o v es fs p;
    }

made : {T : Type 0} (cmp : T → T → Ordering) → IsTotalOrder cmp → (r : Result (Compiled T) Memory) (es fs : List (EventKind × Bound T)) → IsPermutation es fs → IsSorted (event_cmp cmp) fs
    → IfOk r (λ c. c.turns.items ≡ turns false fs) → IfOk r (λ c. c.limit ≡ limit_from cmp None fs) → IfOk r (λ c. StandsFor cmp c es)
made cmp o (Ok c) es fs p s of_turns of_limit = stands cmp o c es fs p s of_turns of_limit
made cmp o (Err e) es fs p s of_turns of_limit = tt

-- the slice of a vector was sorted, and put back into its front
pub made_in_place : {T : Type 0} (cmp : T → T → Ordering) → IsTotalOrder cmp → (r : Result (Compiled T) Memory) (n : ℕ) (es xs fs rest : List (EventKind × Bound T)) → xs ≡ es → length xs ≡ n → IsPermutation xs fs → IsSorted (event_cmp cmp) fs
    → IfOk r (λ c. c.turns.items ≡ turns false (take n (fs ++ rest))) → IfOk r (λ c. c.limit ≡ limit_from cmp None (take n (fs ++ rest))) → IfOk r (λ c. StandsFor cmp c es)
made_in_place {T = T} cmp o r n es xs fs rest same len p s of_turns of_limit =
    let whole : take n (fs ++ rest) ≡ fs = ap (λ (k : ℕ). take k (fs ++ rest)) (sym (length_permutation xs fs p ∙ len)) ∙ take-append_seam fs rest in
    subst (λ (ys : List (EventKind × Bound T)). IfOk r (λ c. StandsFor cmp c ys)) same
    (made cmp o r xs fs p s (subst (λ (ys : List (EventKind × Bound T)). IfOk r (λ c. c.turns.items ≡ turns false ys)) whole of_turns)
    (subst (λ (ys : List (EventKind × Bound T)). IfOk r (λ c. c.limit ≡ limit_from cmp None ys)) whole of_limit))

-- a limit that lets the version through, and the flag that the turns leave
pub held : {T : Type 0} (cmp : T → T → Ordering) (v : T) (c : Compiled T) (es xs : List (EventKind × Bound T)) (before flag : Bool) → StandsFor cmp c es → before ≡ is_before cmp v c.limit → before ≡ true → xs ≡ c.turns.items
    → (IsPartitionedBy (λ (e : EventKind × Bound T). acts cmp v e.0 e.1) xs → flag ≡ flag_from cmp v false xs) → flag ≡ in_range cmp v es
held {T = T} cmp v c es xs before flag s is lets of_turns flag_is =
    flag_is (subst (λ (ys : List (EventKind × Bound T)). IsPartitionedBy (λ (e : EventKind × Bound T). acts cmp v e.0 e.1) ys) (sym of_turns) (s.in_order v))
    ∙ ap (flag_from cmp v false) of_turns ∙ s.same_flag v
    ∙ ap (λ (b : Bool). b && flag_from cmp v false (sorted cmp es)) (sym lets ∙ is ∙ s.same_limit v)
