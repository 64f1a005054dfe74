-- Which imports count among those of a front and later ones.
use Rattle.std.proofs.Common.{◌≡◌, inl, inr, ℕ, Bool, true, false, ◌||◌, List, [], ◌∷◌, ◌++◌, Ordering, Less, Equal, Greater, bytes_eq, refl, sym, ap, subst, ◌∙◌, append_assoc}
use Rattle.std.proofs.Math.Bool.{or-false}
use Rattle.std.proofs.lemmas.List.{append-nil}
use Rattle.std.specs.Ordering.{match_ordering}
use Rattle.osv_record.specs.Advisories.{Advisory}
use Rattle.osv_record.specs.Imports.{placed, records_from, records, has_id, IsLastOfItsId}
use Rattle.evaluate.proofs.Ascending.{by_id, one_id, turned, Below, Ascending, records-ascending}
use Rattle.evaluate.proofs.Latest.{Mem, last-from_mem, stays, comes}

pub records_from-append : (kept a b : List Advisory) → records_from kept (a ++ b) ≡ records_from (records_from kept a) b
records_from-append kept [] b = refl
records_from-append kept (r ∷ a) b = records_from-append (placed r kept) a b

-- ---- those that ascend already

-- each is below the id
Above : List Advisory → List ℕ → Type 0
Above [] id = Unit {0}
Above (x ∷ xs) id = (by_id x.id id ≡ Less) × Above xs id

placed-last : (r : Advisory) (xs : List Advisory) → Above xs r.id → placed r xs ≡ xs ++ r ∷ []
unfolding Above
placed-last r [] p = refl
placed-last r (x ∷ xs) p = let g : by_id r.id x.id ≡ Greater = turned x.id r.id Less p.0 in rw g (ap (λ (ys : List Advisory). x ∷ ys) (placed-last r xs p.1))

below-middle : (id : List ℕ) (xs : List Advisory) (r : Advisory) (later : List Advisory) → Below id (xs ++ r ∷ later) → by_id id r.id ≡ Less
below-middle id [] r later p = p.0
below-middle id (x ∷ xs) r later p = below-middle id xs r later p.1

above : (kept : List Advisory) (r : Advisory) (later : List Advisory) → Ascending (kept ++ r ∷ later) → Above kept r.id
unfolding Above
above [] r later a = tt
above (x ∷ xs) r later a = (below-middle x.id xs r later a.0, above xs r later a.1)

pub records_from-ascending : (kept later : List Advisory) → Ascending (kept ++ later) → records_from kept later ≡ kept ++ later
records_from-ascending kept [] a = sym (append-nil kept)
records_from-ascending kept (r ∷ later) a =
    let whole : (kept ++ r ∷ []) ++ later ≡ kept ++ r ∷ later = append_assoc kept (r ∷ []) later in
    ap (λ (ks : List Advisory). records_from ks later) (placed-last r kept (above kept r later a))
    ∙ records_from-ascending (kept ++ r ∷ []) later (subst (λ (xs : List Advisory). Ascending xs) (sym whole) a) ∙ whole

-- those that count count all
pub records-again : (xs : List Advisory) → records (records xs) ≡ records xs
records-again xs = records_from-ascending [] (records xs) (records-ascending [] xs tt)

-- ---- a front and later ones

pub records-more : (b a : List Advisory) → records (b ++ a) ≡ records_from (records b) a
records-more b a = records_from-append [] b a

pub records-both : (b a : List Advisory) → records (b ++ a) ≡ records (records b ++ a)
records-both b a =
    records-more b a ∙ ap (λ (ks : List Advisory). records_from ks a) (sym (records-again b)) ∙ sym (records_from-append [] (records b) a)

-- ---- the same members, ascending, are the same list

never_less : (a : List ℕ) → by_id a a ≡ Less → ⊥
never_less a e = let t : by_id a a ≡ Greater = turned a a Less e in absurd cc

mem-below : (id : List ℕ) (xs : List Advisory) (s : Advisory) → Below id xs → Mem s xs → by_id id s.id ≡ Less
mem-below id [] s p m = absurd m
mem-below id (x ∷ xs) s p (inl e) = subst (λ (y : Advisory). by_id id y.id ≡ Less) e p.0
mem-below id (x ∷ xs) s p (inr m) = mem-below id xs s p.1 m

both_less : (a b : List ℕ) → by_id a b ≡ Less → by_id b a ≡ Less → ⊥
both_less a b p q = let t : by_id b a ≡ Greater = turned a b Less p in absurd cc

first_same : (x y : Advisory) (xs ys : List Advisory) → Ascending (x ∷ xs) → Ascending (y ∷ ys) → Mem x (y ∷ ys) → Mem y (x ∷ xs) → x ≡ y
first_same x y xs ys a b (inl e) q = sym e
first_same x y xs ys a b (inr m) (inl e) = e
first_same x y xs ys a b (inr m) (inr n) = absurd (both_less x.id y.id (mem-below x.id xs y a.0 n) (mem-below y.id ys x b.0 m))

rest_mem : (x y s : Advisory) (xs ys : List Advisory) → x ≡ y → Below x.id xs → Mem s xs → Mem s (y ∷ ys) → Mem s ys
rest_mem x y s xs ys e p m (inl is) =
    absurd (never_less s.id (subst (λ (z : Advisory). by_id z.id s.id ≡ Less) (e ∙ is) (mem-below x.id xs s p m)))
rest_mem x y s xs ys e p m (inr n) = n

pub same_members : (xs ys : List Advisory) → Ascending xs → Ascending ys → ((s : Advisory) → Mem s xs → Mem s ys) → ((s : Advisory) → Mem s ys → Mem s xs) → xs ≡ ys
same_members [] [] a b f g = refl
same_members [] (y ∷ ys) a b f g = absurd (g y (inl refl))
same_members (x ∷ xs) [] a b f g = absurd (f x (inl refl))
same_members (x ∷ xs) (y ∷ ys) a b f g =
    let e : x ≡ y = first_same x y xs ys a b (f x (inl refl)) (g y (inl refl)) in
    ap (λ (z : Advisory). z ∷ xs) e
    ∙ ap (λ (zs : List Advisory). y ∷ zs)
    (same_members xs ys a.1 b.1 (λ s m. rest_mem x y s xs ys e a.0 m (f s (inr m))) (λ s m. rest_mem y x s ys xs (sym e) b.0 m (g s (inr m))))

-- ---- both parts counted by themselves

either_assoc : (p q r : Bool) → (p || (q || r)) ≡ ((q || p) || r)
either_assoc true true r = refl
either_assoc true false r = refl
either_assoc false true r = refl
either_assoc false false r = refl

either_twice : (p r : Bool) → (p || (p || r)) ≡ (p || r)
either_twice true r = refl
either_twice false r = refl

either_swap : (p q r : Bool) → (p || (q || r)) ≡ (q || (p || r))
either_swap true true r = refl
either_swap true false r = refl
either_swap false true r = refl
either_swap false false r = refl

has_step : (id : List ℕ) (r x : Advisory) (xs : List Advisory) (o : Ordering) → by_id r.id x.id ≡ o → has_id id (placed r xs) ≡ (bytes_eq id r.id || has_id id xs)
    → has_id id (match_ordering o (r ∷ x ∷ xs) (r ∷ xs) (x ∷ placed r xs)) ≡ (bytes_eq id r.id || (bytes_eq id x.id || has_id id xs))
has_step id r x xs Less e later = refl
has_step id r x xs Equal e later =
    sym (either_twice (bytes_eq id r.id) (has_id id xs)) ∙ ap (λ (i : List ℕ). bytes_eq id r.id || (bytes_eq id i || has_id id xs)) (one_id r.id x.id e)
has_step id r x xs Greater e later = ap (λ (t : Bool). bytes_eq id x.id || t) later ∙ either_swap (bytes_eq id x.id) (bytes_eq id r.id) (has_id id xs)

has_id-placed : (id : List ℕ) (r : Advisory) (xs : List Advisory) → has_id id (placed r xs) ≡ (bytes_eq id r.id || has_id id xs)
has_id-placed id r [] = refl
has_id-placed id r (x ∷ xs) = has_step id r x xs (by_id r.id x.id) refl (has_id-placed id r xs)

pub has_id-records_from : (id : List ℕ) (kept later : List Advisory) → has_id id (records_from kept later) ≡ (has_id id kept || has_id id later)
has_id-records_from id kept [] = sym (or-false (has_id id kept))
has_id-records_from id kept (r ∷ later) =
    has_id-records_from id (placed r kept) later ∙ ap (λ (t : Bool). t || has_id id later) (has_id-placed id r kept)
    ∙ sym (either_assoc (has_id id kept) (bytes_eq id r.id) (has_id id later))

module _ (b a : List Advisory) where
  mem_on : (s : Advisory) (l : IsLastOfItsId (records a) s) → Mem s (records_from (records b) (records a))
  mem_on s l = subst (λ (xs : List Advisory). Mem s (records_from (records b) xs)) (sym l.stands) (comes (records b) l.before l.after s l.last)

  mem_back : (s : Advisory) (l : IsLastOfItsId a s) → Mem s (records_from (records b) a)
  mem_back s l = subst (λ (xs : List Advisory). Mem s (records_from (records b) xs)) (sym l.stands) (comes (records b) l.before l.after s l.last)

  -- the last of its id is still so among those that count
  last_on : (s : Advisory) → IsLastOfItsId a s → IsLastOfItsId (records a) s
  last_on s l =
      let m : Mem s (records a) = subst (λ (xs : List Advisory). Mem s (records xs)) (sym l.stands) (comes [] l.before l.after s l.last) in
      elim (last-from_mem [] (records a) s tt (subst (λ (xs : List Advisory). Mem s xs) (sym (records-again a)) m)) [ inl k ↦ k | inr p ↦ absurd p.0 ]

  last_back : (s : Advisory) → IsLastOfItsId (records a) s → IsLastOfItsId a s
  last_back s l =
      let m : Mem s (records (records a)) = subst (λ (xs : List Advisory). Mem s (records xs)) (sym l.stands) (comes [] l.before l.after s l.last) in
      elim (last-from_mem [] a s tt (subst (λ (xs : List Advisory). Mem s xs) (records-again a) m)) [ inl k ↦ k | inr p ↦ absurd p.0 ]

  pub records-merged : records (b ++ a) ≡ records (records b ++ records a)
  records-merged =
      let up : Ascending (records b) = records-ascending [] b tt in
      records-more b a
      ∙ same_members (records_from (records b) a) (records_from (records b) (records a)) (records-ascending (records b) a up) (records-ascending (records b) (records a) up)
      (λ s m. elim (last-from_mem (records b) a s up m) [
        | inl l ↦ mem_on s (last_on s l)
        | inr p ↦ stays (records b) (records a) s p.0 (has_id-records_from s.id [] a ∙ p.1)
      ])
      (λ s m. elim (last-from_mem (records b) (records a) s up m) [
        | inl l ↦ mem_back s (last_back s l)
        | inr p ↦ stays (records b) a s p.0 (sym (has_id-records_from s.id [] a) ∙ p.1)
      ])
      ∙ ap (λ (ks : List Advisory). records_from ks (records a)) (sym (records-again b)) ∙ sym (records_from-append [] (records b) (records a))
