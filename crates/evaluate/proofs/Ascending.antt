-- Advisories that ascend strictly by their ids.
use Rattle.std.proofs.Common.{◌≡◌, Bool, true, false, cond, List, [], ◌∷◌, map, Ordering, Less, Equal, Greater, nat_cmp, is_eq, refl, sym, ap, subst, ◌∙◌, ℕ}
use Rattle.std.specs.Prelude.{filter}
use Rattle.std.specs.List.{AllByRecursion}
use Rattle.std.specs.List.Sorted.{IsStrictlySortedBy}
use Rattle.std.specs.Ordering.{match_ordering, ordering_reverse}
use Rattle.std.specs.Cmp.Lexicographic.{slice_cmp, same_text}
use Rattle.std.proofs.lemmas.Cmp.{nat_list_cmp_total}
use Rattle.std.proofs.lemmas.Map.Text.{is_eq-slice_cmp}
use Rattle.osv_record.specs.Advisories.{Advisory}
use Rattle.osv_record.specs.Imports.{placed, records_from}

abbrev pub by_id : List ℕ → List ℕ → Ordering
by_id = slice_cmp nat_cmp

-- equal ids are one id
pub one_id : (a b : List ℕ) → by_id a b ≡ Equal → a ≡ b
one_id a b e = same_text a b (sym (sym (is_eq-slice_cmp a b) ∙ ap is_eq e))

pub turned : (a b : List ℕ) (o : Ordering) → by_id a b ≡ o → by_id b a ≡ ordering_reverse o
turned a b o e = nat_list_cmp_total.antisymm b a ∙ ap ordering_reverse e

-- the id is below that of each
abbrev pub Below : List ℕ → List Advisory → Type 0
Below id xs = AllByRecursion (λ k. by_id id k ≡ Less) (map (λ (r : Advisory). r.id) xs)

abbrev pub Ascending : List Advisory → Type 0
Ascending [] = Unit {0}
Ascending (x ∷ xs) = Below x.id xs × Ascending xs

pub below-trans : (a b : List ℕ) (xs : List Advisory) → by_id a b ≡ Less → Below b xs → Below a xs
below-trans a b [] less p = tt
below-trans a b (x ∷ xs) less p = (nat_list_cmp_total.trans a b x.id less p.0, below-trans a b xs less p.1)

-- ---- an advisory at its place

below_step : (id : List ℕ) (r x : Advisory) (xs : List Advisory) (o : Ordering) → by_id id r.id ≡ Less → Below id (x ∷ xs) → Below id (placed r xs)
    → Below id (match_ordering o (r ∷ x ∷ xs) (r ∷ xs) (x ∷ placed r xs))
below_step id r x xs Less less p later = (less, p)
below_step id r x xs Equal less p later = (less, p.1)
below_step id r x xs Greater less p later = (p.0, later)

below-placed : (id : List ℕ) (r : Advisory) (xs : List Advisory) → by_id id r.id ≡ Less → Below id xs → Below id (placed r xs)
below-placed id r [] less p = (less, tt)
below-placed id r (x ∷ xs) less p = below_step id r x xs (by_id r.id x.id) less p (below-placed id r xs less p.1)

ascending_step : (r x : Advisory) (xs : List Advisory) (o : Ordering) → by_id r.id x.id ≡ o → Ascending (x ∷ xs) → Ascending (placed r xs)
    → Ascending (match_ordering o (r ∷ x ∷ xs) (r ∷ xs) (x ∷ placed r xs))
ascending_step r x xs Less e a later = ((e, below-trans r.id x.id xs e a.0), a)
ascending_step r x xs Equal e a later = (subst (λ (i : List ℕ). Below i xs) (sym (one_id r.id x.id e)) a.0, a.1)
ascending_step r x xs Greater e a later = (below-placed x.id r xs (turned r.id x.id Greater e) a.0, later)

pub placed-ascending : (r : Advisory) (xs : List Advisory) → Ascending xs → Ascending (placed r xs)
placed-ascending r [] a = (tt, tt)
placed-ascending r (x ∷ xs) a = ascending_step r x xs (by_id r.id x.id) refl a (placed-ascending r xs a.1)

pub records-ascending : (kept later : List Advisory) → Ascending kept → Ascending (records_from kept later)
records-ascending kept [] a = a
records-ascending kept (r ∷ later) a = records-ascending (placed r kept) later (placed-ascending r kept a)

pub is_sorted : (xs : List Advisory) → Ascending xs → IsStrictlySortedBy (slice_cmp nat_cmp) (map (λ (r : Advisory). r.id) xs)
unfolding IsStrictlySortedBy
is_sorted [] a = tt
is_sorted (x ∷ xs) a = (a.0, is_sorted xs a.1)

-- ---- those that pass a test

below_if : (id : List ℕ) (b : Bool) (x : Advisory) (xs : List Advisory) → by_id id x.id ≡ Less → Below id xs → Below id (cond b (x ∷ xs) xs)
below_if id true x xs less p = (less, p)
below_if id false x xs less p = p

pub below-filter : (h : Advisory → Bool) (id : List ℕ) (xs : List Advisory) → Below id xs → Below id (filter h xs)
below-filter h id [] p = tt
below-filter h id (x ∷ xs) p = below_if id (h x) x (filter h xs) p.0 (below-filter h id xs p.1)

placed-first : (r : Advisory) (xs : List Advisory) → Below r.id xs → placed r xs ≡ r ∷ xs
placed-first r [] p = refl
placed-first r (x ∷ xs) p = rw p.0 refl

-- without the advisory of that id
abbrev pub removed : List ℕ → List Advisory → List Advisory
removed id [] = []
removed id (x ∷ xs) = cond (is_eq (by_id id x.id)) xs (x ∷ removed id xs)

removed-none : (id : List ℕ) (xs : List Advisory) → Below id xs → removed id xs ≡ xs
removed-none id [] p = refl
removed-none id (x ∷ xs) p = rw p.0 (ap (λ (ys : List Advisory). x ∷ ys) (removed-none id xs p.1))

module _ (h : Advisory → Bool) (r : Advisory) where
  placed_at : (x : Advisory) (xs : List Advisory) (b : Bool) → by_id r.id x.id ≡ Equal → Below r.id (filter h xs) → r ∷ filter h xs ≡ placed r (cond b (x ∷ filter h xs) (filter h xs))
  placed_at x xs true e p = rw e refl
  placed_at x xs false e p = sym (placed-first r (filter h xs) p)

  placed_after : (x : Advisory) (xs : List Advisory) (b : Bool) → by_id r.id x.id ≡ Greater → filter h (placed r xs) ≡ placed r (filter h xs)
      → cond b (x ∷ filter h (placed r xs)) (filter h (placed r xs)) ≡ placed r (cond b (x ∷ filter h xs) (filter h xs))
  placed_after x xs true e later = rw e (ap (λ (ys : List Advisory). x ∷ ys) later)
  placed_after x xs false e later = later

  hit_step : (x : Advisory) (xs : List Advisory) (o : Ordering) → by_id r.id x.id ≡ o → h r ≡ true → Ascending (x ∷ xs) → filter h (placed r xs) ≡ placed r (filter h xs)
      → filter h (match_ordering o (r ∷ x ∷ xs) (r ∷ xs) (x ∷ placed r xs)) ≡ placed r (filter h (x ∷ xs))
  hit_step x xs Less e hit a later = rw hit (sym (placed-first r (filter h (x ∷ xs)) (below-filter h r.id (x ∷ xs) (e, below-trans r.id x.id xs e a.0))))
  hit_step x xs Equal e hit a later = rw hit (placed_at x xs (h x) e (below-filter h r.id xs (subst (λ (i : List ℕ). Below i xs) (sym (one_id r.id x.id e)) a.0)))
  hit_step x xs Greater e hit a later = placed_after x xs (h x) e later

  pub filter-placed_hit : (xs : List Advisory) → h r ≡ true → Ascending xs → filter h (placed r xs) ≡ placed r (filter h xs)
  filter-placed_hit [] hit a = rw hit refl
  filter-placed_hit (x ∷ xs) hit a = hit_step x xs (by_id r.id x.id) refl hit a (filter-placed_hit xs hit a.1)

  removed_at : (x : Advisory) (xs : List Advisory) (b : Bool) → by_id r.id x.id ≡ Equal → Below r.id (filter h xs) → filter h xs ≡ removed r.id (cond b (x ∷ filter h xs) (filter h xs))
  removed_at x xs true e p = rw e refl
  removed_at x xs false e p = sym (removed-none r.id (filter h xs) p)

  removed_after : (x : Advisory) (xs : List Advisory) (b : Bool) → by_id r.id x.id ≡ Greater → filter h (placed r xs) ≡ removed r.id (filter h xs)
      → cond b (x ∷ filter h (placed r xs)) (filter h (placed r xs)) ≡ removed r.id (cond b (x ∷ filter h xs) (filter h xs))
  removed_after x xs true e later = rw e (ap (λ (ys : List Advisory). x ∷ ys) later)
  removed_after x xs false e later = later

  miss_step : (x : Advisory) (xs : List Advisory) (o : Ordering) → by_id r.id x.id ≡ o → h r ≡ false → Ascending (x ∷ xs) → filter h (placed r xs) ≡ removed r.id (filter h xs)
      → filter h (match_ordering o (r ∷ x ∷ xs) (r ∷ xs) (x ∷ placed r xs)) ≡ removed r.id (filter h (x ∷ xs))
  miss_step x xs Less e miss a later = rw miss (sym (removed-none r.id (filter h (x ∷ xs)) (below-filter h r.id (x ∷ xs) (e, below-trans r.id x.id xs e a.0))))
  miss_step x xs Equal e miss a later = rw miss (removed_at x xs (h x) e (below-filter h r.id xs (subst (λ (i : List ℕ). Below i xs) (sym (one_id r.id x.id e)) a.0)))
  miss_step x xs Greater e miss a later = removed_after x xs (h x) e later

  pub filter-placed_miss : (xs : List Advisory) → h r ≡ false → Ascending xs → filter h (placed r xs) ≡ removed r.id (filter h xs)
  filter-placed_miss [] miss a = rw miss refl
  filter-placed_miss (x ∷ xs) miss a = miss_step x xs (by_id r.id x.id) refl miss a (filter-placed_miss xs miss a.1)
