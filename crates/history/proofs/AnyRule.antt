-- The same for any rule on which of two imports of an id counts, as long as it keeps the id.
use Rattle.std.proofs.Common.{◌≡◌, ℕ, List, [], ◌∷◌, ◌++◌, Ordering, Less, Equal, Greater, refl, sym, ap, subst, ◌∙◌, append_assoc}
use Rattle.std.proofs.lemmas.List.{append-nil}
use Rattle.std.specs.Ordering.{match_ordering}
use Rattle.osv_record.specs.Advisories.{Advisory}
use Rattle.evaluate.proofs.Ascending.{by_id, one_id, turned, Below, Ascending, below-trans}

-- the one that counts, of an import and a later one of its id
module _ (counts : Advisory → Advisory → Advisory) where
  abbrev pub put : Advisory → List Advisory → List Advisory
  put r [] = r ∷ []
  put r (x ∷ xs) = match_ordering (by_id r.id x.id) (r ∷ x ∷ xs) (counts x r ∷ xs) (x ∷ put r xs)

  abbrev pub all_from : List Advisory → List Advisory → List Advisory
  all_from kept [] = kept
  all_from kept (r ∷ later) = all_from (put r kept) later

  pub all_from-append : (kept a b : List Advisory) → all_from kept (a ++ b) ≡ all_from (all_from kept a) b
  all_from-append kept [] b = refl
  all_from-append kept (r ∷ a) b = all_from-append (put r kept) a b

  Over : List Advisory → List ℕ → Type 0
  Over [] id = Unit {0}
  Over (x ∷ xs) id = (by_id x.id id ≡ Less) × Over xs id

  put-last : (r : Advisory) (xs : List Advisory) → Over xs r.id → put r xs ≡ xs ++ r ∷ []
  unfolding Over
  put-last r [] p = refl
  put-last r (x ∷ xs) p = let g : by_id r.id x.id ≡ Greater = turned x.id r.id Less p.0 in rw g (ap (λ (ys : List Advisory). x ∷ ys) (put-last r xs p.1))

  under-middle : (id : List ℕ) (xs : List Advisory) (r : Advisory) (later : List Advisory) → Below id (xs ++ r ∷ later) → by_id id r.id ≡ Less
  under-middle id [] r later p = p.0
  under-middle id (x ∷ xs) r later p = under-middle id xs r later p.1

  over : (kept : List Advisory) (r : Advisory) (later : List Advisory) → Ascending (kept ++ r ∷ later) → Over kept r.id
  unfolding Over
  over [] r later a = tt
  over (x ∷ xs) r later a = (under-middle x.id xs r later a.0, over xs r later a.1)

  pub all_from-ascending : (kept later : List Advisory) → Ascending (kept ++ later) → all_from kept later ≡ kept ++ later
  all_from-ascending kept [] a = sym (append-nil kept)
  all_from-ascending kept (r ∷ later) a =
      let whole : (kept ++ r ∷ []) ++ later ≡ kept ++ r ∷ later = append_assoc kept (r ∷ []) later in
      ap (λ (ks : List Advisory). all_from ks later) (put-last r kept (over kept r later a))
      ∙ all_from-ascending (kept ++ r ∷ []) later (subst (λ (xs : List Advisory). Ascending xs) (sym whole) a) ∙ whole

  module _ (keeps : (old new : Advisory) → by_id new.id old.id ≡ Equal → (counts old new).id ≡ new.id) where
    under_step : (id : List ℕ) (r x : Advisory) (xs : List Advisory) (o : Ordering) → by_id r.id x.id ≡ o → by_id id r.id ≡ Less → Below id (x ∷ xs) → Below id (put r xs)
        → Below id (match_ordering o (r ∷ x ∷ xs) (counts x r ∷ xs) (x ∷ put r xs))
    under_step id r x xs Less e less p later = (less, p)
    under_step id r x xs Equal e less p later = (subst (λ (i : List ℕ). by_id id i ≡ Less) (sym (keeps x r e)) less, p.1)
    under_step id r x xs Greater e less p later = (p.0, later)

    under-put : (id : List ℕ) (r : Advisory) (xs : List Advisory) → by_id id r.id ≡ Less → Below id xs → Below id (put r xs)
    under-put id r [] less p = (less, tt)
    under-put id r (x ∷ xs) less p = under_step id r x xs (by_id r.id x.id) refl less p (under-put id r xs less p.1)

    up_step : (r x : Advisory) (xs : List Advisory) (o : Ordering) → by_id r.id x.id ≡ o → Ascending (x ∷ xs) → Ascending (put r xs)
        → Ascending (match_ordering o (r ∷ x ∷ xs) (counts x r ∷ xs) (x ∷ put r xs))
    up_step r x xs Less e a later = ((e, below-trans r.id x.id xs e a.0), a)
    up_step r x xs Equal e a later = (subst (λ (i : List ℕ). Below i xs) (sym (one_id r.id x.id e) ∙ sym (keeps x r e)) a.0, a.1)
    up_step r x xs Greater e a later = (under-put x.id r xs (turned r.id x.id Greater e) a.0, later)

    put-ascending : (r : Advisory) (xs : List Advisory) → Ascending xs → Ascending (put r xs)
    put-ascending r [] a = (tt, tt)
    put-ascending r (x ∷ xs) a = up_step r x xs (by_id r.id x.id) refl a (put-ascending r xs a.1)

    pub ascends : (kept later : List Advisory) → Ascending kept → Ascending (all_from kept later)
    ascends kept [] a = a
    ascends kept (r ∷ later) a = ascends (put r kept) later (put-ascending r kept a)

    pub again : (xs : List Advisory) → all_from [] (all_from [] xs) ≡ all_from [] xs
    again xs = all_from-ascending [] (all_from [] xs) (ascends [] xs tt)

    -- what counts of both is what counts of the front's and of what was added
    pub both : (b a : List Advisory) → all_from [] (b ++ a) ≡ all_from [] (all_from [] b ++ a)
    both b a = all_from-append [] b a ∙ ap (λ (ks : List Advisory). all_from ks a) (sym (again b)) ∙ sym (all_from-append [] (all_from [] b) a)
