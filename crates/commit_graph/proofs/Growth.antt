-- A graph with one more row.
use Rattle.std.proofs.Common.{◌≡◌, ◌≢◌, ℕ, ◌+◌, ◌-◌, ◌*◌, ◌^◌, ◌<◌, ◌≤◌, min, inl, inr, false, List, [], ◌∷◌, ◌++◌, length, map, take, get_or, sum_by, All, AllPairs, Contains, refl, sym, ap, subst, ◌∙◌, arith, length-append}
use Rattle.std.specs.List.{EachIndex}
use Rattle.std.specs.Str.{bytes_eq}
use Rattle.std.proofs.lemmas.Bool.{true≢false, cases_order}
use Rattle.std.proofs.lemmas.List.{length-map, get_or-map, get_or_append_left, get_or_push, map_push, take-append-le, take_at}
use Rattle.std.proofs.lemmas.List.Elements.{All-map, All-weaker, All-from_get_or, All-head, All-tail, Contains-get_or}
use Rattle.std.proofs.lemmas.List.Folds.{list_any_at}
use Rattle.std.proofs.lemmas.List.Quantifiers.{all_pairs_push}
use Rattle.std.proofs.lemmas.List.Sums.{sum_by_push}
use Rattle.std.proofs.lemmas.Slice.Eq.{bytes_eq-Decides}
use Rattle.osv_prim.specs.declared.oid.CommitRow.{CommitRow}
use Rattle.osv_prim.specs.Graphs.{ids, has, id_at, parents_at, IsLegal}
use Rattle.commit_graph.specs.Linked.{IsLinked, IsGraph, weight_of}
use Rattle.commit_graph.proofs.Rows.{length-ids}

-- ---- lists

pub map-agree : {A B : Type 0} (f g : A → B) (xs : List A) → All (λ x. f x ≡ g x) xs → map f xs ≡ map g xs
map-agree f g [] h = refl
map-agree {A} f g (x ∷ xs) h =
    let P : A → Type 0 = λ y. f y ≡ g y in
    ap (λ y. y ∷ map f xs) (All-head P x xs h) ∙ ap (λ ys. g x ∷ ys) (map-agree f g xs (All-tail P x xs h))

-- what holds at each index of a list, and of one more at its end
each_push : {A : Type 0} (P : ℕ → Type 0) (xs : List A) (x : A) → ((n : ℕ) → n < length xs → P n) → P (length xs) → EachIndex (xs ++ x ∷ []) P
each_push P xs x before at n lt =
    elim (cases_order n (length xs)) [
      | inl e ↦ subst P (sym e) at
      | inr (inl below) ↦ before n below
      | inr (inr above) ↦ absurd (omega (arith, length-append xs (x ∷ [])))
    ]

-- ---- ids and parents by their numbers

ids-push : (graph : List CommitRow) (r : CommitRow) → ids (graph ++ r ∷ []) ≡ ids graph ++ r.oid ∷ []
ids-push graph r = map_push (λ (x : CommitRow). x.oid) graph r

pub id_at-push : (graph : List CommitRow) (r : CommitRow) (n : ℕ) → n < length graph → id_at (graph ++ r ∷ []) n ≡ id_at graph n
id_at-push graph r n lt =
    ap (λ (xs : List (List ℕ)). get_or xs n []) (ids-push graph r) ∙ get_or_append_left (ids graph) (r.oid ∷ []) [] n (omega (arith, length-ids graph))

parents_at-push : (graph : List CommitRow) (r : CommitRow) (n : ℕ) → n < length graph → parents_at (graph ++ r ∷ []) n ≡ parents_at graph n
parents_at-push graph r n lt =
    ap (λ (xs : List (List (List ℕ))). get_or xs n []) (map_push (λ (x : CommitRow). x.parents) graph r)
    ∙ get_or_append_left (map (λ (x : CommitRow). x.parents) graph) (r.parents ∷ []) [] n (omega (arith, length-map graph (λ (x : CommitRow). x.parents)))

parents_at-last : (graph : List CommitRow) (r : CommitRow) → parents_at (graph ++ r ∷ []) (length graph) ≡ r.parents
parents_at-last graph r =
    ap (λ (xs : List (List (List ℕ))). get_or xs (length graph) []) (map_push (λ (x : CommitRow). x.parents) graph r)
    ∙ get_or_push (map (λ (x : CommitRow). x.parents) graph) r.parents [] (length graph) (length-map graph (λ (x : CommitRow). x.parents))

-- ---- the row's parents by their numbers

module _ (graph : List CommitRow) (numbers : List (List ℕ)) (linked : IsLinked graph numbers) where
  pub length-numbers : length numbers ≡ length graph
  length-numbers =
      sym (length-map numbers (map (id_at graph))) ∙ ap (λ (xs : List (List (List ℕ))). length xs) linked.parents ∙ length-map graph (λ (x : CommitRow). x.parents)

  pub linked_at : (n : ℕ) → n < length graph → map (id_at graph) (get_or numbers n []) ≡ parents_at graph n
  linked_at n lt =
      sym (get_or-map (map (id_at graph)) numbers n [] [] (omega (arith, length-numbers))) ∙ ap (λ (xs : List (List (List ℕ))). get_or xs n []) linked.parents

  pub earlier_at : (n : ℕ) → n < length graph → All (λ p. p < n) (get_or numbers n [])
  earlier_at n lt = linked.earlier n (omega (arith, length-numbers))

  module _ (r : CommitRow) (list : List ℕ) (named : map (id_at graph) list ≡ r.parents) (below : All (λ p. p < length graph) list) where
    same_list : (ns : List ℕ) → All (λ p. p < length graph) ns → map (id_at (graph ++ r ∷ [])) ns ≡ map (id_at graph) ns
    same_list ns h =
        map-agree (id_at (graph ++ r ∷ [])) (id_at graph) ns
        (All-weaker (λ p. p < length graph) (λ p. id_at (graph ++ r ∷ []) p ≡ id_at graph p) (λ p lt. id_at-push graph r p lt) ns h)

    same_lists : map (map (id_at (graph ++ r ∷ []))) numbers ≡ map (map (id_at graph)) numbers
    same_lists =
        map-agree (map (id_at (graph ++ r ∷ []))) (map (id_at graph)) numbers
        (All-from_get_or (λ ns. map (id_at (graph ++ r ∷ [])) ns ≡ map (id_at graph) ns) numbers []
        (λ n lt. same_list (get_or numbers n []) (All-weaker (λ p. p < n) (λ p. p < length graph) (λ p q. omega (arith, length-numbers)) (get_or numbers n []) (linked.earlier n lt))))

    linked-push : IsLinked (graph ++ r ∷ []) (numbers ++ list ∷ [])
    linked-push =
        record {
          parents =
              map_push (map (id_at (graph ++ r ∷ []))) numbers list ∙ ap (λ (xs : List (List (List ℕ))). xs ++ map (id_at (graph ++ r ∷ [])) list ∷ []) (same_lists ∙ linked.parents)
              ∙ ap (λ (x : List (List ℕ)). map (λ (y : CommitRow). y.parents) graph ++ x ∷ []) (same_list list below ∙ named) ∙ sym (map_push (λ (y : CommitRow). y.parents) graph r);
          earlier =
              each_push (λ n. All (λ p. p < n) (get_or (numbers ++ list ∷ []) n [])) numbers list
              (λ n lt. subst (λ (ns : List ℕ). All (λ p. p < n) ns) (sym (get_or_append_left numbers (list ∷ []) [] n lt)) (linked.earlier n lt))
              (subst (λ (ns : List ℕ). All (λ p. p < length numbers) ns) (sym (get_or_push numbers list [] (length numbers) refl))
              (subst (λ (k : ℕ). All (λ p. p < k) list) (sym length-numbers) below));
        }

-- ---- legal graphs

module _ (graph : List CommitRow) (legal : IsLegal graph) (r : CommitRow) where
  differs : has graph r.oid ≡ false → (k : ℕ) (d : List ℕ) → k < length (ids graph) → get_or (ids graph) k d ≢ r.oid
  differs absent k d lt e =
      true≢false (sym (list_any_at (bytes_eq r.oid) (ids graph) k d lt ((bytes_eq-Decides r.oid (get_or (ids graph) k d)).1 (sym e))) ∙ absent)

  before_it : (n : ℕ) → n ≤ length graph → take n (ids (graph ++ r ∷ [])) ≡ take n (ids graph)
  before_it n le = ap (take n) (ids-push graph r) ∙ take-append-le n (ids graph) (r.oid ∷ []) (omega (arith, length-ids graph))

  all_ids : take (length graph) (ids (graph ++ r ∷ [])) ≡ ids graph
  all_ids = ap (take (length graph)) (ids-push graph r) ∙ take_at (ids graph) (r.oid ∷ []) (length graph) (length-ids graph)

  Earlier : ℕ → Type 0
  Earlier n = All (Contains (take n (ids (graph ++ r ∷ [])))) (parents_at (graph ++ r ∷ []) n)

  still_earlier : (n : ℕ) → n < length graph → All (Contains (take n (ids (graph ++ r ∷ [])))) (parents_at (graph ++ r ∷ []) n)
  still_earlier n lt =
      subst (λ (ps : List (List ℕ)). All (Contains (take n (ids (graph ++ r ∷ [])))) ps) (sym (parents_at-push graph r n lt))
      (subst (λ (xs : List (List ℕ)). All (Contains xs) (parents_at graph n)) (sym (before_it n (omega arith))) (legal.earlier n lt))

  named_earlier : (list : List ℕ) → map (id_at graph) list ≡ r.parents → All (λ p. p < length graph) list → All (Contains (ids graph)) r.parents
  named_earlier list named below =
      subst (λ (ps : List (List ℕ)). All (Contains (ids graph)) ps) named
      (All-map (Contains (ids graph)) (id_at graph) list
      (All-weaker (λ p. p < length graph) (λ p. Contains (ids graph) (id_at graph p)) (λ p lt. Contains-get_or (ids graph) p [] (omega (arith, length-ids graph))) list below))

  legal-push : (list : List ℕ) → has graph r.oid ≡ false → map (id_at graph) list ≡ r.parents → All (λ p. p < length graph) list → IsLegal (graph ++ r ∷ [])
  legal-push list absent named below =
      record {
        differ = subst (λ (xs : List (List ℕ)). AllPairs (λ a b. a ≢ b) xs) (sym (ids-push graph r)) (all_pairs_push (λ a b. a ≢ b) (ids graph) r.oid legal.differ (differs absent));
        earlier =
            each_push (λ n. All (Contains (take n (ids (graph ++ r ∷ [])))) (parents_at (graph ++ r ∷ []) n)) graph r still_earlier
            (subst (λ (ps : List (List ℕ)). All (Contains (take (length graph) (ids (graph ++ r ∷ [])))) ps) (sym (parents_at-last graph r))
            (subst (λ (xs : List (List ℕ)). All (Contains xs) r.parents) (sym all_ids) (named_earlier list named below)));
      }

pub weight_of-push : (graph : List CommitRow) (r : CommitRow) → weight_of (graph ++ r ∷ []) ≡ weight_of graph + 64 + 32 * length r.parents
weight_of-push graph r =
    let all : sum_by (λ (x : CommitRow). length x.parents) (graph ++ r ∷ []) ≡ sum_by (λ (x : CommitRow). length x.parents) graph + length r.parents = sum_by_push (λ (x : CommitRow). length x.parents) graph r in
    omega (arith, all, length-append graph (r ∷ []))

pub IsGraph-push : (graph : List CommitRow) (numbers : List (List ℕ)) (count weight : ℕ) (r : CommitRow) (list : List ℕ) → IsGraph graph numbers count weight → has graph r.oid ≡ false
    → map (id_at graph) list ≡ r.parents → All (λ p. p < length graph) list → length graph + 1 < 2 ^ 32 → (more : ℕ) → more ≡ min (weight_of (graph ++ r ∷ [])) (2 ^ 64 - 1)
    → IsGraph (graph ++ r ∷ []) (numbers ++ list ∷ []) (count + 1) more
IsGraph-push graph numbers count weight r list kept absent named below room more weighed =
    record {
      legal = legal-push graph kept.legal r list absent named below;
      linked = linked-push graph numbers kept.linked r list named below;
      counted = omega (arith, kept.counted, length-append graph (r ∷ []));
      small = omega (arith, length-append graph (r ∷ []));
      weighed = weighed;
    }

pub IsGraph-same : (graph other : List CommitRow) (numbers others : List (List ℕ)) (count weight : ℕ) → other ≡ graph → others ≡ numbers → IsGraph graph numbers count weight → IsGraph other others count weight
IsGraph-same graph other numbers others count weight e f kept =
    subst (λ (g : List CommitRow). IsGraph g others count weight) (sym e) (subst (λ (ns : List (List ℕ)). IsGraph graph ns count weight) (sym f) kept)
