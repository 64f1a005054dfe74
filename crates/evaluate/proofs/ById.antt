-- A map by ids beside the imports that count and hit.
use Rattle.std.proofs.Common.{◌≡◌, ℕ, ◌+◌, ◌<◌, ◌≤◌, Bool, true, false, cond, List, [], ◌∷◌, ◌++◌, length, take, get_or, map, Ordering, Less, Equal, Greater, Bor, nat_cmp, is_eq, refl, sum_by, sym, ap, ◌∙◌, arith}
use Rattle.std.proofs.lemmas.List.{map_more, take-map}
use Rattle.std.proofs.lemmas.List.Sums.{sum_by_push, sum_by-take-le}
use Rattle.std.specs.Prelude.{filter}
use Rattle.std.specs.Map.{remove_entry}
use Rattle.std.specs.Set.{remove_key}
use Rattle.std.specs.BTreeSet.{insert_key}
use Rattle.std.specs.Ordering.{match_ordering}
use Rattle.std.specs.Cmp.Lexicographic.{slice_cmp}
use Rattle.std.specs.BTreeMap.{insert_entry}
use Rattle.osv_prim.specs.declared.subject.Subject.{Subject}
use Rattle.osv_record.specs.Advisories.{Advisory}
use Rattle.osv_record.specs.Imports.{placed, records_from, records}
use Rattle.evaluate.specs.Hits.{Repo, is_hit, hits, ids_of, hit_ids, keyed}
use Rattle.evaluate.proofs.Ascending.{by_id, one_id, records-ascending, removed, filter-placed_hit, filter-placed_miss}

-- a kept value is seen as an advisory
module _ {V : Type 0} (see : V → Advisory) where
  abbrev pub pair : Bor (List ℕ) × V → List ℕ × Advisory
  pair e = (e.0.now, see e.1)

abbrev pub by_key : Bor (List ℕ) → Bor (List ℕ) → Ordering
by_key a b = slice_cmp nat_cmp a.now b.now

map-match : {X Y : Type 0} (f : X → Y) (o : Ordering) (a b c : List X) → map f (match_ordering o a b c) ≡ match_ordering o (map f a) (map f b) (map f c)
map-match f Less a b c = refl
map-match f Equal a b c = refl
map-match f Greater a b c = refl

map-cond : {X Y : Type 0} (f : X → Y) (b : Bool) (xs ys : List X) → map f (cond b xs ys) ≡ cond b (map f xs) (map f ys)
map-cond f true xs ys = refl
map-cond f false xs ys = refl

-- ---- an insert

pair-insert : {V : Type 0} (see : V → Advisory) (es : List (Bor (List ℕ) × V)) (k : Bor (List ℕ)) (v : V)
    → map (pair see) (insert_entry by_key es k v) ≡ insert_entry (slice_cmp nat_cmp) (map (pair see) es) k.now (see v)
pair-insert see [] k v = refl
pair-insert see (e ∷ es) k v = map-match (pair see) (by_key k e.0) _ _ _ ∙ rw (pair-insert see es k v) refl

-- a map whose values are a part of each advisory
module _ {W : Type 0} (part : Advisory → W) where
  abbrev pub with_part : Advisory → List ℕ × W
  with_part x = (x.id, part x)

  same_place : (r x : Advisory) (o : Ordering) (xs : List Advisory) (rest : List (List ℕ × W)) → by_id r.id x.id ≡ o → rest ≡ map with_part (placed r xs)
      → match_ordering o ((r.id, part r) ∷ with_part x ∷ map with_part xs) ((x.id, part r) ∷ map with_part xs) (with_part x ∷ rest)
      ≡ match_ordering o (map with_part (r ∷ x ∷ xs)) (map with_part (r ∷ xs)) (map with_part (x ∷ placed r xs))
  same_place r x Less xs rest o e = refl
  same_place r x Equal xs rest o e = ap (λ (i : List ℕ). (i, part r) ∷ map with_part xs) (sym (one_id r.id x.id o))
  same_place r x Greater xs rest o e = ap (λ (t : List (List ℕ × W)). with_part x ∷ t) e

  insert-part : (r : Advisory) (xs : List Advisory) → insert_entry (slice_cmp nat_cmp) (map with_part xs) r.id (part r) ≡ map with_part (placed r xs)
  insert-part r [] = refl
  insert-part r (x ∷ xs) = same_place r x (by_id r.id x.id) xs _ refl (insert-part r xs) ∙ sym (map-match with_part (by_id r.id x.id) _ _ _)

  remove-part : (id : List ℕ) (xs : List Advisory) → remove_entry (λ k. is_eq (by_id id k)) (map with_part xs) ≡ map with_part (removed id xs)
  remove-part id [] = refl
  remove-part id (x ∷ xs) = rw (remove-part id xs) (sym (map-cond with_part (is_eq (by_id id x.id)) _ _))

-- ---- a removal

pair-remove : {V : Type 0} (see : V → Advisory) (test : Bor (List ℕ) → Bool) (id : List ℕ) (es : List (Bor (List ℕ) × V)) → ((k : Bor (List ℕ)) → test k ≡ is_eq (by_id id k.now))
    → map (pair see) (remove_entry test es) ≡ remove_entry (λ k. is_eq (by_id id k)) (map (pair see) es)
pair-remove see test id [] h = refl
pair-remove see test id (e ∷ es) h = map-cond (pair see) (test e.0) _ _ ∙ rw (h e.0, pair-remove see test id es h) refl

-- ---- a turn of the loop

records-push : (kept imports : List Advisory) (r : Advisory) → records_from kept (imports ++ r ∷ []) ≡ placed r (records_from kept imports)
records-push kept [] r = refl
records-push kept (x ∷ imports) r = records-push (placed x kept) imports r

-- the imports that count and pass a test, with one more
module _ (h : Advisory → Bool) (imports : List Advisory) (r : Advisory) where
  pub one_in : h r ≡ true → filter h (records (imports ++ r ∷ [])) ≡ placed r (filter h (records imports))
  one_in is = ap (filter h) (records-push [] imports r) ∙ filter-placed_hit h r (records imports) is (records-ascending [] imports tt)

  pub one_out : h r ≡ false → filter h (records (imports ++ r ∷ [])) ≡ removed r.id (filter h (records imports))
  one_out is = ap (filter h) (records-push [] imports r) ∙ filter-placed_miss h r (records imports) is (records-ascending [] imports tt)

  pub part_inserted : {W : Type 0} (part : Advisory → W) (es : List (List ℕ × W)) → h r ≡ true → es ≡ map (with_part part) (filter h (records imports))
      → insert_entry (slice_cmp nat_cmp) es r.id (part r) ≡ map (with_part part) (filter h (records (imports ++ r ∷ [])))
  part_inserted part es is so_far =
      ap (λ es. insert_entry (slice_cmp nat_cmp) es r.id (part r)) so_far ∙ insert-part part r (filter h (records imports)) ∙ ap (map (with_part part)) (sym (one_in is))

  pub part_taken_out : {W : Type 0} (part : Advisory → W) (es : List (List ℕ × W)) → h r ≡ false → es ≡ map (with_part part) (filter h (records imports))
      → remove_entry (λ k. is_eq (by_id r.id k)) es ≡ map (with_part part) (filter h (records (imports ++ r ∷ [])))
  part_taken_out part es is so_far =
      ap (remove_entry (λ k. is_eq (by_id r.id k))) so_far ∙ remove-part part r.id (filter h (records imports)) ∙ ap (map (with_part part)) (sym (one_out is))

pub inserted : {V : Type 0} (see : V → Advisory) (es : List (Bor (List ℕ) × V)) (k : Bor (List ℕ)) (v : V) (imports : List Advisory) (r : Advisory) (g : List Repo) (s : Subject)
    → k.now ≡ r.id → see v ≡ r → is_hit g s r ≡ true → map (pair see) es ≡ map keyed (hits imports g s) → map (pair see) (insert_entry by_key es k v) ≡ map keyed (hits (imports ++ r ∷ []) g s)
inserted see es k v imports r g s key value is so_far = pair-insert see es k v ∙ rw (key, value) (part_inserted (is_hit g s) imports r (λ x. x) (map (pair see) es) is so_far)

pub taken_out : {V : Type 0} (see : V → Advisory) (test : Bor (List ℕ) → Bool) (es : List (Bor (List ℕ) × V)) (imports : List Advisory) (r : Advisory) (g : List Repo) (s : Subject)
    → ((k : Bor (List ℕ)) → test k ≡ is_eq (by_id r.id k.now)) → is_hit g s r ≡ false → map (pair see) es ≡ map keyed (hits imports g s) → map (pair see) (remove_entry test es) ≡ map keyed (hits (imports ++ r ∷ []) g s)
taken_out see test es imports r g s h is so_far = pair-remove see test r.id es h ∙ part_taken_out (is_hit g s) imports r (λ x. x) (map (pair see) es) is so_far

pub all_values : {V : Type 0} (see : V → Advisory) (es : List (Bor (List ℕ) × V)) (rs : List Advisory) → map (pair see) es ≡ map keyed rs → map see (map (λ (e : Bor (List ℕ) × V). e.1) es) ≡ rs
all_values see [] [] e = refl
all_values see [] (r ∷ rs) e = absurd cc
all_values see (x ∷ es) [] e = absurd cc
all_values {V = V} see (x ∷ es) (r ∷ rs) e =
    let first : pair see x ≡ keyed r = cc in
    let others : map (pair see) es ≡ map keyed rs = cc in
    ap (λ (y : Advisory). y ∷ map see (map (λ (e : Bor (List ℕ) × V). e.1) es)) (ap (λ (p : List ℕ × Advisory). p.1) first) ∙ ap (λ (t : List Advisory). r ∷ t) (all_values see es rs others)

pub one_more : {A : Type 0} (see : A → Advisory) (xs : List A) (i : ℕ) (a : A) → i < length xs → a ≡ get_or xs i a → map see (take (i + 1) xs) ≡ map see (take i xs) ++ see a ∷ []
one_more see xs i a lt at = map_more see xs i a lt ∙ ap (λ y. map see (take i xs) ++ see y ∷ []) (sym at)

-- ---- sums over the imports so far

module _ {A : Type 0} (see : A → Advisory) (count : Advisory → ℕ) (xs : List A) (i : ℕ) (a : A) (lt : i < length xs) (at : a ≡ get_or xs i a) where
  pub count_more : sum_by count (map see (take (i + 1) xs)) ≡ sum_by count (map see (take i xs)) + count (see a)
  count_more = ap (sum_by count) (one_more see xs i a lt at) ∙ sum_by_push count (map see (take i xs)) (see a)

  pub count_within : sum_by count (map see (take i xs)) + count (see a) ≤ sum_by count (map see xs)
  count_within = omega (arith, count_more, ap (sum_by count) (take-map see (i + 1) xs), sum_by-take-le count (map see xs) (i + 1))

-- ---- ids alone

same_ids : (r x : Advisory) (o : Ordering) (xs : List Advisory) (rest : List (List ℕ)) → by_id r.id x.id ≡ o → rest ≡ ids_of (placed r xs)
    → match_ordering o (r.id ∷ x.id ∷ ids_of xs) (x.id ∷ ids_of xs) (x.id ∷ rest) ≡ match_ordering o (ids_of (r ∷ x ∷ xs)) (ids_of (r ∷ xs)) (ids_of (x ∷ placed r xs))
same_ids r x Less xs rest o e = refl
same_ids r x Equal xs rest o e = ap (λ (i : List ℕ). i ∷ ids_of xs) (sym (one_id r.id x.id o))
same_ids r x Greater xs rest o e = ap (λ (t : List (List ℕ)). x.id ∷ t) e

insert-ids : (r : Advisory) (xs : List Advisory) → insert_key by_id (ids_of xs) r.id ≡ ids_of (placed r xs)
insert-ids r [] = refl
insert-ids r (x ∷ xs) = same_ids r x (by_id r.id x.id) xs _ refl (insert-ids r xs) ∙ sym (map-match (λ (y : Advisory). y.id) (by_id r.id x.id) _ _ _)

remove-ids : (id : List ℕ) (xs : List Advisory) → remove_key (λ k. is_eq (by_id id k)) (ids_of xs) ≡ ids_of (removed id xs)
remove-ids id [] = refl
remove-ids id (x ∷ xs) = rw (remove-ids id xs) (sym (map-cond (λ (y : Advisory). y.id) (is_eq (by_id id x.id)) _ _))

pub id_inserted : (ids : List (List ℕ)) (imports : List Advisory) (r : Advisory) (g : List Repo) (s : Subject) → is_hit g s r ≡ true → ids ≡ hit_ids imports g s → insert_key by_id ids r.id ≡ hit_ids (imports ++ r ∷ []) g s
id_inserted ids imports r g s is so_far =
    ap (λ (ks : List (List ℕ)). insert_key by_id ks r.id) so_far ∙ insert-ids r (hits imports g s) ∙ ap ids_of (sym (one_in (is_hit g s) imports r is))

pub id_taken_out : (ids : List (List ℕ)) (imports : List Advisory) (r : Advisory) (g : List Repo) (s : Subject) → is_hit g s r ≡ false → ids ≡ hit_ids imports g s
    → remove_key (λ k. is_eq (by_id r.id k)) ids ≡ hit_ids (imports ++ r ∷ []) g s
id_taken_out ids imports r g s is so_far =
    ap (remove_key (λ k. is_eq (by_id r.id k))) so_far ∙ remove-ids r.id (hits imports g s) ∙ ap ids_of (sym (one_out (is_hit g s) imports r is))
