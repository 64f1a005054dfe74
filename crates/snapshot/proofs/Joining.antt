-- Pages of one query, one after another.
use Rattle.std.proofs.Common.{◌≡◌, ℕ, zero, suc, ◌<◌, ◌≤◌, Bool, true, false, cond, List, [], ◌∷◌, ◌++◌, length, take, drop, ltb-true, ltb-false, length-take-le, Ordering, Less, Equal, Greater, refl, sym, ap, subst, ◌∙◌, arith}
use Rattle.std.specs.Prelude.{Option, Some, None, filter, nat_lt, flat_map, MatchBool}
use Rattle.std.specs.Ordering.{is_lt}
use Rattle.std.proofs.lemmas.Cmp.{nat_list_cmp_total}
use Rattle.std.proofs.lemmas.List.{append-nil}
use Rattle.osv_prim.specs.declared.subject.Subject.{Subject}
use Rattle.osv_record.specs.Advisories.{Advisory}
use Rattle.evaluate.specs.Hits.{is_hit}
use Rattle.evaluate.proofs.Ascending.{by_id, turned, Below, Ascending, below-filter, records-ascending}
use Rattle.history.specs.declared.past.Past.{Past}
use Rattle.history.specs.Prefixes.{advisories, records, graphs}
use Rattle.impact_job.proofs.Merging.{itself}
use Rattle.snapshot.specs.Pages.{is_above, hits_above, Page, page}
use Rattle.snapshot.specs.Walks.{last_id, IsWalk, found_in}

-- ---- hits ascend

asc_if : (b : Bool) (x : Advisory) (xs : List Advisory) → Below x.id xs → Ascending xs → Ascending (cond b (x ∷ xs) xs)
asc_if true x xs p a = (p, a)
asc_if false x xs p a = a

pub ascending-filter : (h : Advisory → Bool) (xs : List Advisory) → Ascending xs → Ascending (filter h xs)
ascending-filter h [] a = tt
ascending-filter h (x ∷ xs) a = asc_if (h x) x (filter h xs) (below-filter h x.id xs a.0) (ascending-filter h xs a.1)

less : (o : Ordering) → is_lt o ≡ true → o ≡ Less
less Less e = refl
less Equal e = absurd cc
less Greater e = absurd cc

above_if : (id : List ℕ) (x : Advisory) (b : Bool) (xs : List Advisory) → is_above (Some id) x ≡ b → Below id xs → Below id (cond b (x ∷ xs) xs)
above_if id x true xs e p = (less _ e, p)
above_if id x false xs e p = p

below-above : (id : List ℕ) (xs : List Advisory) → Below id (filter (is_above (Some id)) xs)
below-above id [] = tt
below-above id (x ∷ xs) = above_if id x (is_above (Some id) x) (filter (is_above (Some id)) xs) refl (below-above id xs)

-- ---- what passes the second test passes the first

twice_if : (p q : Advisory → Bool) (x : Advisory) (b : Bool) (xs ys : List Advisory) → p x ≡ b → (q x ≡ true → p x ≡ true) → filter q xs ≡ filter q ys → filter q (cond b (x ∷ xs) xs) ≡ filter q (x ∷ ys)
twice_if p q x true xs ys e i t = ap (λ (zs : List Advisory). cond (q x) (x ∷ zs) zs) t
twice_if p q x false xs ys e i t = t ∙ sym (skipped (q x) refl)
  where
    skipped : (b : Bool) → q x ≡ b → filter q (x ∷ ys) ≡ filter q ys
    skipped true f = absurd (let g : p x ≡ true = i f in cc)
    skipped false f = rw f refl

pub twice : (p q : Advisory → Bool) → ((x : Advisory) → q x ≡ true → p x ≡ true) → (xs : List Advisory) → filter q (filter p xs) ≡ filter q xs
twice p q i [] = refl
twice p q i (x ∷ xs) = twice_if p q x (p x) (filter p xs) xs refl (i x) (twice p q i xs)

-- an id above the one after which hits are asked
abbrev IsAfter : Option (List ℕ) → List ℕ → Type 0
IsAfter None l = Unit {0}
IsAfter (Some id) l = by_id id l ≡ Less

narrower : (after : Option (List ℕ)) (l : List ℕ) → IsAfter after l → (x : Advisory) → is_above (Some l) x ≡ true → is_above after x ≡ true
narrower None l i x e = refl
narrower (Some id) l i x e = ap is_lt (nat_list_cmp_total.trans id l x.id i (less _ e))

-- ---- the last of a page

all_kept : (id : List ℕ) (xs : List Advisory) → Below id xs → filter (is_above (Some id)) xs ≡ xs
all_kept id [] b = refl
all_kept id (x ∷ xs) b = let e : is_above (Some id) x ≡ true = ap is_lt b.0 in rw e (ap (λ (ys : List Advisory). x ∷ ys) (all_kept id xs b.1))

dropped : (id : List ℕ) (x : Advisory) (xs : List Advisory) → is_above (Some id) x ≡ false → filter (is_above (Some id)) (x ∷ xs) ≡ filter (is_above (Some id)) xs
dropped id x xs e = rw e refl

record Cut (xs : List Advisory) (n : ℕ) : Type 0 where
  last : List ℕ
  is : last_id (take n xs) ≡ Some last
  others : filter (is_above (Some last)) xs ≡ drop n xs
  under : (k : List ℕ) → Below k xs → by_id k last ≡ Less

cut_at : (xs : List Advisory) (n : ℕ) → Ascending xs → suc n ≤ length xs → Cut xs (suc n)
cut_at [] n a le = absurd (omega arith)
cut_at (x ∷ xs) zero a le =
    record {
      last = x.id;
      is = refl;
      others = dropped x.id x xs (ap is_lt (itself x.id)) ∙ all_kept x.id xs a.0;
      under = λ k b. b.0;
    }
cut_at (x ∷ []) (suc n) a le = absurd (omega arith)
cut_at (x ∷ y ∷ ys) (suc n) a le =
    let c = cut_at (y ∷ ys) n a.1 (omega arith) in
    record {
      last = c.last;
      is = c.is;
      others = dropped c.last x (y ∷ ys) (ap is_lt (turned x.id c.last Less (c.under x.id a.0))) ∙ c.others;
      under = λ k b. c.under k b.1;
    }

above_all : (after : Option (List ℕ)) (xs : List Advisory) (l : List ℕ) → ((k : List ℕ) → Below k (filter (is_above after) xs) → by_id k l ≡ Less) → IsAfter after l
above_all None xs l u = tt
above_all (Some id) xs l u = u id (below-above id xs)

-- hits above the last one of a page are those behind the page
pub go_on : (xs : List Advisory) (after : Option (List ℕ)) (n : ℕ) → Ascending xs → suc n ≤ length (filter (is_above after) xs)
    → filter (is_above (last_id (take (suc n) (filter (is_above after) xs)))) xs ≡ drop (suc n) (filter (is_above after) xs)
go_on xs after n a le =
    let c = cut_at (filter (is_above after) xs) n (ascending-filter (is_above after) xs a) le in
    ap (λ (l : Option (List ℕ)). filter (is_above l) xs) c.is
    ∙ sym (twice (is_above after) (is_above (Some c.last)) (narrower after c.last (above_all after xs c.last c.under)) xs) ∙ c.others

halves : (n : ℕ) (xs : List Advisory) → take n xs ++ drop n xs ≡ xs
halves zero xs = refl
halves (suc n) [] = refl
halves (suc n) (x ∷ xs) = ap (λ (ys : List Advisory). x ∷ ys) (halves n xs)

whole : (xs : List Advisory) (n : ℕ) → length xs ≤ n → take n xs ≡ xs
whole [] zero le = refl
whole [] (suc n) le = refl
whole (x ∷ xs) zero le = absurd (omega arith)
whole (x ∷ xs) (suc n) le = ap (λ (ys : List Advisory). x ∷ ys) (whole xs n (omega arith))

-- ---- a walk

module _ (p : List Past) (subject : Subject) where
  hits-ascend : Ascending (filter (is_hit (graphs p) subject) (records p))
  hits-ascend = ascending-filter (is_hit (graphs p) subject) (records p) (records-ascending [] (advisories p) tt)

  pub above-ascend : (after : Option (List ℕ)) → Ascending (hits_above p subject after)
  above-ascend after = ascending-filter (is_above after) (filter (is_hit (graphs p) subject) (records p)) hits-ascend

  behind : (after : Option (List ℕ)) (size : ℕ) → 1 ≤ size → size < length (hits_above p subject after) → hits_above p subject (last_id (take size (hits_above p subject after))) ≡ drop size (hits_above p subject after)
  behind after zero one lt = absurd (omega arith)
  behind after (suc n) one lt = go_on (filter (is_hit (graphs p) subject) (records p)) after n hits-ascend (omega arith)

  module _ (size : ℕ) (one : 1 ≤ size) where
    step : (after : Option (List ℕ)) (g : Page) (rest : List Page) (b : Bool) → nat_lt size (length (hits_above p subject after)) ≡ b → g ≡ page p subject after size
        → MatchBool g.more (IsWalk p subject size (last_id g.found) rest) (rest ≡ []) → (IsWalk p subject size (last_id g.found) rest → flat_map found_in rest ≡ hits_above p subject (last_id g.found))
        → g.found ++ flat_map found_in rest ≡ hits_above p subject after
    step after g rest true e is m later =
        let all : List Advisory = hits_above p subject after in
        let more : g.more ≡ true = ap (λ (x : Page). x.more) is ∙ e in
        let found : g.found ≡ take size all = ap (λ (x : Page). x.found) is in
        let walk : IsWalk p subject size (last_id g.found) rest = subst (λ (b : Bool). MatchBool b (IsWalk p subject size (last_id g.found) rest) (rest ≡ [])) more m in
        ap (λ (ys : List Advisory). g.found ++ ys) (later walk ∙ ap (λ (ys : List Advisory). hits_above p subject (last_id ys)) found ∙ behind after size one (ltb-true _ _ e))
        ∙ ap (λ (ys : List Advisory). ys ++ drop size all) found ∙ halves size all
    step after g rest false e is m later =
        let all : List Advisory = hits_above p subject after in
        let more : g.more ≡ false = ap (λ (x : Page). x.more) is ∙ e in
        let found : g.found ≡ take size all = ap (λ (x : Page). x.found) is in
        let end : rest ≡ [] = subst (λ (b : Bool). MatchBool b (IsWalk p subject size (last_id g.found) rest) (rest ≡ [])) more m in
        ap (λ (gs : List Page). g.found ++ flat_map found_in gs) end ∙ append-nil g.found ∙ found ∙ whole all size (ltb-false _ _ e)

    pub joined : (after : Option (List ℕ)) (pages : List Page) → IsWalk p subject size after pages → flat_map found_in pages ≡ hits_above p subject after
    joined after [] w = absurd w
    joined after (g ∷ rest) w = step after g rest (nat_lt size (length (hits_above p subject after))) refl w.0 w.1 (λ v. joined (last_id g.found) rest v)

    pub not_empty : (after : Option (List ℕ)) → (page p subject after size).more ≡ true → 0 < length (page p subject after size).found
    not_empty after e = let lt : size < length (hits_above p subject after) = ltb-true _ _ e in omega (arith, length-take-le size (hits_above p subject after) (omega arith))
