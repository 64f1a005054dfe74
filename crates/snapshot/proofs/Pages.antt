-- Hits above an id, and the first of them.
use Rattle.std.proofs.Common.{◌≡◌, ℕ, zero, suc, ◌+◌, ◌<◌, ◌≤◌, Bool, true, false, cond, List, [], ◌∷◌, ◌++◌, length, map, take, drop, get_or, Less, refl, sym, ap, subst, ◌∙◌, arith, length-append}
use Rattle.std.specs.Prelude.{Option, Some, None, IfSome, filter}
use Rattle.std.specs.Option.{option_to_list}
use Rattle.std.specs.Ordering.{is_lt}
use Rattle.std.proofs.Math.Seq.{take-append_seam}
use Rattle.std.proofs.lemmas.List.{append-nil, map_more}
use Rattle.std.proofs.lemmas.List.Elements.{filter-append}
use Rattle.osv_record.specs.Advisories.{Advisory}
use Rattle.evaluate.proofs.Ascending.{by_id, turned, Below}
use Rattle.impact_job.specs.Order.{IsSplit}
use Rattle.impact_job.proofs.Parting.{Under}
use Rattle.impact_job.proofs.Merging.{itself}
use Rattle.snapshot.specs.Pages.{is_above, Page}

-- ---- hits above an id

module _ (h : Advisory → Bool) where
  pub all_without_id : (xs : List Advisory) → filter (is_above None) (filter h xs) ≡ filter h xs
  all_without_id xs = every (filter h xs)
    where
      every : (ys : List Advisory) → filter (is_above None) ys ≡ ys
      every [] = refl
      every (y ∷ ys) = ap (λ (zs : List Advisory). y ∷ zs) (every ys)

  keep_none : (id : List ℕ) (x : Advisory) (b : Bool) (rest : List Advisory) → is_above (Some id) x ≡ false → filter (is_above (Some id)) (cond b (x ∷ rest) rest) ≡ filter (is_above (Some id)) rest
  keep_none id x true rest n = rw n refl
  keep_none id x false rest n = refl

  keep_some : (id : List ℕ) (x : Advisory) (b : Bool) (rest : List Advisory) → is_above (Some id) x ≡ true → filter (is_above (Some id)) rest ≡ rest → filter (is_above (Some id)) (cond b (x ∷ rest) rest) ≡ cond b (x ∷ rest) rest
  keep_some id x true rest n e = rw n (ap (λ (ys : List Advisory). x ∷ ys) e)
  keep_some id x false rest n e = e

  none-below : (id : List ℕ) (below rest : List Advisory) → Under below id → filter (is_above (Some id)) (filter h (below ++ rest)) ≡ filter (is_above (Some id)) (filter h rest)
  none-below id [] rest u = refl
  none-below id (x ∷ xs) rest u =
      keep_none id x (h x) (filter h (xs ++ rest)) (ap is_lt (turned x.id id Less u.0)) ∙ none-below id xs rest u.1

  all-above : (id : List ℕ) (above : List Advisory) → Below id above → filter (is_above (Some id)) (filter h above) ≡ filter h above
  all-above id [] b = refl
  all-above id (x ∷ xs) b = keep_some id x (h x) (filter h xs) (ap is_lt b.0) (all-above id xs b.1)

  not-same : (id : List ℕ) (found : Option Advisory) (above : List Advisory) → IfSome found (λ r. r.id ≡ id) → Below id above → filter (is_above (Some id)) (filter h (option_to_list found ++ above)) ≡ filter h above
  not-same id None above s b = all-above id above b
  not-same id (Some r) above s b =
      let n : is_above (Some id) r ≡ false = subst (λ (k : List ℕ). is_lt (by_id id k) ≡ false) (sym s) (ap is_lt (itself id)) in
      keep_none id r (h r) (filter h above) n ∙ all-above id above b

  pub hits-above : (id : List ℕ) (xs below : List Advisory) (found : Option Advisory) (above : List Advisory) → IsSplit id xs below found above → filter (is_above (Some id)) (filter h xs) ≡ filter h above
  hits-above id xs below found above s =
      ap (λ (ys : List Advisory). filter (is_above (Some id)) (filter h ys)) s.whole ∙ none-below id below (option_to_list found ++ above) s.under ∙ not-same id found above s.same s.over

  -- ---- the first hits of a list, of which the loop has seen some

  module _ {A : Type 0} (see : A → Advisory) where
    step : (x y : Advisory) (b : Bool) (all front rest : List Advisory) → all ≡ front ++ y ∷ rest → cond b (x ∷ all) all ≡ cond b (x ∷ front) front ++ y ∷ rest
    step x y true all front rest e = ap (λ (ys : List Advisory). x ∷ ys) e
    step x y false all front rest e = e

    at_hit : (xs : List A) (i : ℕ) (a : A) → i < length xs → a ≡ get_or xs i a → h (see a) ≡ true
        → filter h (map see xs) ≡ filter h (map see (take i xs)) ++ see a ∷ filter h (map see (drop (suc i) xs))
    at_hit [] i a lt e hit = absurd (omega arith)
    at_hit (x ∷ xs) zero a lt e hit =
        let hit_x : h (see x) ≡ true = subst (λ (y : A). h (see y) ≡ true) e hit in
        rw hit_x (ap (λ (y : A). see y ∷ filter h (map see xs)) (sym e))
    at_hit (x ∷ xs) (suc i) a lt e hit = step (see x) (see a) (h (see x)) _ _ _ (at_hit xs i a (omega arith) e hit)

    pub full : (xs : List A) (i : ℕ) (a : A) (found : List Advisory) (size : ℕ) → i < length xs → a ≡ get_or xs i a → h (see a) ≡ true → found ≡ filter h (map see (take i xs)) → length found ≡ size
        → (found ≡ take size (filter h (map see xs))) × (size < length (filter h (map see xs)))
    full xs i a found size lt e hit is len =
        let rest : List Advisory = filter h (map see (drop (suc i) xs)) in
        let whole : filter h (map see xs) ≡ found ++ see a ∷ rest = at_hit xs i a lt e hit ∙ ap (λ (ys : List Advisory). ys ++ see a ∷ rest) (sym is) in
        let long : length (filter h (map see xs)) ≡ length found + length (see a ∷ rest) = ap (λ (ys : List Advisory). length ys) whole ∙ length-append found (see a ∷ rest) in
        (sym (ap (λ (n : ℕ). take n (filter h (map see xs))) (sym len) ∙ ap (λ (ys : List Advisory). take (length found) ys) whole ∙ take-append_seam found (see a ∷ rest)), omega (arith, long, len))

    last_if : (b : Bool) (x : Advisory) → h x ≡ b → filter h (x ∷ []) ≡ cond b (x ∷ []) []
    last_if b x e = ap (λ (t : Bool). cond t (x ∷ []) []) e

    -- one more of the list
    one_more : (xs : List A) (i : ℕ) (a : A) (b : Bool) → i < length xs → a ≡ get_or xs i a → h (see a) ≡ b → filter h (map see (take (i + 1) xs)) ≡ filter h (map see (take i xs)) ++ cond b (see a ∷ []) []
    one_more xs i a b lt e hit =
        ap (filter h) (map_more see xs i a lt ∙ ap (λ (y : A). map see (take i xs) ++ see y ∷ []) (sym e))
        ∙ filter-append h (map see (take i xs)) (see a ∷ [])
        ∙ ap (λ (ys : List Advisory). filter h (map see (take i xs)) ++ ys) (last_if b (see a) hit)

    pub one_hit : (xs : List A) (i : ℕ) (a : A) → i < length xs → a ≡ get_or xs i a → h (see a) ≡ true → filter h (map see (take (i + 1) xs)) ≡ filter h (map see (take i xs)) ++ see a ∷ []
    one_hit xs i a lt e hit = one_more xs i a true lt e hit

    pub no_hit : (xs : List A) (i : ℕ) (a : A) → i < length xs → a ≡ get_or xs i a → h (see a) ≡ false → filter h (map see (take (i + 1) xs)) ≡ filter h (map see (take i xs))
    no_hit xs i a lt e hit = one_more xs i a false lt e hit ∙ append-nil (filter h (map see (take i xs)))

pub all_fit : (found : List Advisory) (size : ℕ) → length found ≤ size → found ≡ take size found
all_fit [] zero le = refl
all_fit [] (suc n) le = refl
all_fit (x ∷ xs) zero le = absurd (omega arith)
all_fit (x ∷ xs) (suc n) le = ap (λ (ys : List Advisory). x ∷ ys) (all_fit xs n (omega arith))

abbrev pack : List Advisory → Bool → Page
pack found more = record { found = found; more = more }

pub same_page : (f g : List Advisory) (m n : Bool) → f ≡ g → m ≡ n → pack f m ≡ pack g n
same_page f g m n e k = ap (λ (xs : List Advisory). pack xs m) e ∙ ap (λ (b : Bool). pack g b) k

pub fewer : (id : List ℕ) (xs below : List Advisory) (found : Option Advisory) (above : List Advisory) → IsSplit id xs below found above → length above ≤ length xs
fewer id xs below found above s =
    omega (arith, ap (λ (ys : List Advisory). length ys) s.whole, length-append below (option_to_list found ++ above), length-append (option_to_list found) above)
