-- An advisory among those whose ids have its head.
use Rattle.std.proofs.Common.{◌≡◌, ℕ, ◌≤◌, true, false, List, [], ◌∷◌, ◌++◌, length, map, take, drop, nat_lt, zero, suc, refl, sym, ap, subst, ◌∙◌, append_assoc}
use Rattle.std.specs.Prelude.{Option, nat_le}
use Rattle.std.specs.Option.{option_to_list}
use Rattle.std.specs.List.Sorted.{IsNonDecreasing, IsPartitionPoint}
use Rattle.osv_record.specs.Advisories.{Advisory}
use Rattle.evaluate.proofs.Ascending.{Below}
use Rattle.impact_job.specs.Order.{Ascend, IsSplit}
use Rattle.impact_job.proofs.Parting.{Under, ascending}
use Rattle.id_index.specs.Found.{IsFoundIn}
use Rattle.id_index.specs.Heads.{head}
use Rattle.id_index.proofs.Heads.{AreBytes, heads, AllBytes, rises, heads-drop, heads-length, bytes-drop, ascending-drop, ascending-take, under, over, ascend}

under-append : (id : List ℕ) (xs ys : List Advisory) → Under xs id → Under ys id → Under (xs ++ ys) id
under-append id [] ys p q = q
under-append id (x ∷ xs) ys p q = (p.0, under-append id xs ys p.1 q)

below-append : (id : List ℕ) (xs ys : List Advisory) → Below id xs → Below id ys → Below id (xs ++ ys)
below-append id [] ys p q = q
below-append id (x ∷ xs) ys p q = (p.0, below-append id xs ys p.1 q)

-- a split of the middle of a list
widened : (id : List ℕ) (front middle back below above : List Advisory) (found : Option Advisory) → Under front id → Below id back → IsSplit id middle below found above
    → IsFoundIn id (front ++ (middle ++ back)) found
widened id front middle back below above found u o s =
    record {
      below = front ++ below;
      above = above ++ back;
      split = record {
        whole = ap (λ (m : List Advisory). front ++ (m ++ back)) s.whole
            ∙ ap (λ (m : List Advisory). front ++ m) (append_assoc below (option_to_list found ++ above) back ∙ ap (λ (m : List Advisory). below ++ m) (append_assoc (option_to_list found) above back))
            ∙ sym (append_assoc front below (option_to_list found ++ (above ++ back)));
        under = under-append id front below u s.under;
        same = s.same;
        over = below-append id above back s.over o;
      };
    }

module _ {A : Type 0} (see : A → Advisory) where
  halves : (n : ℕ) (xs : List A) → map see xs ≡ map see (take n xs) ++ map see (drop n xs)
  halves zero xs = refl
  halves (suc n) [] = refl
  halves (suc n) (x ∷ xs) = ap (λ (ys : List Advisory). see x ∷ ys) (halves n xs)

  thirds : (n m : ℕ) (xs : List A) → map see xs ≡ map see (take n xs) ++ (map see (take m (drop n xs)) ++ map see (drop m (drop n xs)))
  thirds n m xs = halves n xs ∙ ap (λ (ys : List Advisory). map see (take n xs) ++ ys) (halves m (drop n xs))

  pub found : (id : List ℕ) (wanted : ℕ) (xs : List A) (hs rest : List ℕ) (later middle : List A) (n m : ℕ) (below above : List Advisory) (it : Option Advisory) → AreBytes id → wanted ≡ head id → AllBytes see xs → hs ≡ heads see xs → n ≤ length hs
      → (IsNonDecreasing hs → IsPartitionPoint (λ h. nat_lt h wanted ≡ true) (λ h. nat_lt h wanted ≡ false) hs n)
      → rest ≡ drop n hs → later ≡ drop n xs → middle ≡ take m later
      → (IsNonDecreasing rest → IsPartitionPoint (λ h. nat_le h wanted ≡ true) (λ h. nat_le h wanted ≡ false) rest m)
      → (Ascend (map see middle) → IsSplit id (map see middle) below it above)
      → Ascend (map see xs) → IsFoundIn id (map see xs) it
  found id wanted xs hs rest later middle n m below above it b w bs same le first cut_heads cut cut_end last split up =
      let a = ascending (map see xs) up in
      let start : IsPartitionPoint (λ h. nat_lt h (head id) ≡ true) (λ h. nat_lt h (head id) ≡ false) (heads see xs) n
      = subst (λ (k : ℕ). IsPartitionPoint (λ h. nat_lt h k ≡ true) (λ h. nat_lt h k ≡ false) (heads see xs) n) w
      (subst (λ (ks : List ℕ). IsPartitionPoint (λ h. nat_lt h wanted ≡ true) (λ h. nat_lt h wanted ≡ false) ks n) same
      (first (subst (λ (ks : List ℕ). IsNonDecreasing ks) (sym same) (rises see xs a bs)))) in
      let behind : rest ≡ heads see (drop n xs) = cut_heads ∙ ap (λ (ks : List ℕ). drop n ks) same ∙ heads-drop see n xs in
      let among : middle ≡ take m (drop n xs) = cut_end ∙ ap (λ (ys : List A). take m ys) cut in
      let end : IsPartitionPoint (λ h. nat_le h (head id) ≡ true) (λ h. nat_le h (head id) ≡ false) (heads see (drop n xs)) m
      = subst (λ (k : ℕ). IsPartitionPoint (λ h. nat_le h k ≡ true) (λ h. nat_le h k ≡ false) (heads see (drop n xs)) m) w
      (subst (λ (ks : List ℕ). IsPartitionPoint (λ h. nat_le h wanted ≡ true) (λ h. nat_le h wanted ≡ false) ks m) behind
      (last (subst (λ (ks : List ℕ). IsNonDecreasing ks) (sym behind) (rises see (drop n xs) (ascending-drop see n xs a) (bytes-drop see n xs bs))))) in
      let s : IsSplit id (map see (take m (drop n xs))) below it above
      = subst (λ (ys : List A). IsSplit id (map see ys) below it above) among
      (split (subst (λ (ys : List A). Ascend (map see ys)) (sym among) (ascend _ (ascending-take see m (drop n xs) (ascending-drop see n xs a))))) in
      let few : n ≤ length xs = subst (λ (k : ℕ). n ≤ k) (ap length same ∙ heads-length see xs) le in
      subst (λ (ys : List Advisory). IsFoundIn id ys it) (sym (thirds n m xs))
      (widened id (map see (take n xs)) (map see (take m (drop n xs))) (map see (drop m (drop n xs))) below above it
      (under see id n xs b bs few start.0)
      (over see id m (drop n xs) b (bytes-drop see n xs bs) end.1)
      s)
