-- Which imports count.
use Rattle.std.proofs.Common.{◌≡◌, ◌⊎◌, inl, inr, ℕ, zero, suc, ◌<◌, true, false, List, [], ◌∷◌, ◌++◌, length, get_or, Ordering, Less, Equal, Greater, is_eq, bytes_eq, refl, sym, ap, subst, ◌∙◌, arith}
use Rattle.std.specs.Prelude.{Contains}
use Rattle.std.specs.Ordering.{match_ordering}
use Rattle.std.proofs.lemmas.Bool.{or_parts, or_from}
use Rattle.std.proofs.lemmas.Map.Text.{is_eq-slice_cmp}
use Rattle.osv_record.specs.Advisories.{Advisory}
use Rattle.osv_record.specs.Imports.{placed, records_from, records, has_id, IsLastOfItsId}
use Rattle.evaluate.proofs.Ascending.{by_id, one_id, turned, Below, Ascending, below-trans, placed-ascending}

abbrev pub Mem : Advisory → List Advisory → Type 0
Mem s [] = ⊥
Mem s (x ∷ xs) = (x ≡ s) ⊎ Mem s xs

pub mem-from_contains : (xs : List Advisory) (s : Advisory) (k : ℕ) → k < length xs → get_or xs k s ≡ s → Mem s xs
mem-from_contains [] s k lt e = absurd (omega arith)
mem-from_contains (x ∷ xs) s zero lt e = inl e
mem-from_contains (x ∷ xs) s (suc k) lt e = inr (mem-from_contains xs s k (omega arith) e)

pub contains-from_mem : (xs : List Advisory) (s : Advisory) → Mem s xs → Contains xs s
contains-from_mem [] s m = absurd m
contains-from_mem (x ∷ xs) s (inl e) = (0, omega arith, e)
contains-from_mem (x ∷ xs) s (inr m) = let c = contains-from_mem xs s m in (suc c.0, (let lt : c.0 < length xs = c.1 in omega arith), c.2)

-- ---- ids apart

apart : (a b : List ℕ) (o : Ordering) → by_id a b ≡ o → is_eq o ≡ false → bytes_eq a b ≡ false
apart a b o e n = sym (is_eq-slice_cmp a b) ∙ ap is_eq e ∙ n

mem-below : (id : List ℕ) (xs : List Advisory) (s : Advisory) → Below id xs → Mem s xs → by_id id s.id ≡ Less
mem-below id [] s p m = absurd m
mem-below id (x ∷ xs) s p (inl e) = subst (λ (y : Advisory). by_id id y.id ≡ Less) e p.0
mem-below id (x ∷ xs) s p (inr m) = mem-below id xs s p.1 m

above : (r s : Advisory) (xs : List Advisory) → Below r.id xs → Mem s xs → bytes_eq s.id r.id ≡ false
above r s xs p m = apart s.id r.id Greater (turned r.id s.id Less (mem-below r.id xs s p m)) refl

-- ---- an advisory at its place

placed_step : (r x s : Advisory) (xs : List Advisory) (o : Ordering) → by_id r.id x.id ≡ o → Ascending (x ∷ xs)
    → (Mem s (placed r xs) → (r ≡ s) ⊎ (Mem s xs × (bytes_eq s.id r.id ≡ false)))
    → Mem s (match_ordering o (r ∷ x ∷ xs) (r ∷ xs) (x ∷ placed r xs)) → (r ≡ s) ⊎ (Mem s (x ∷ xs) × (bytes_eq s.id r.id ≡ false))
placed_step r x s xs Less e a later (inl is) = inl is
placed_step r x s xs Less e a later (inr m) = inr (m, above r s (x ∷ xs) (e, below-trans r.id x.id xs e a.0) m)
placed_step r x s xs Equal e a later (inl is) = inl is
placed_step r x s xs Equal e a later (inr m) = inr (inr m, above r s xs (subst (λ (i : List ℕ). Below i xs) (sym (one_id r.id x.id e)) a.0) m)
placed_step r x s xs Greater e a later (inl is) = inr (inl is, subst (λ (y : Advisory). bytes_eq y.id r.id ≡ false) is (apart x.id r.id Less (turned r.id x.id Greater e) refl))
placed_step r x s xs Greater e a later (inr m) = elim (later m) [ inl is ↦ inl is | inr p ↦ inr (inr p.0, p.1) ]

pub mem-from_placed : (r s : Advisory) (xs : List Advisory) → Ascending xs → Mem s (placed r xs) → (r ≡ s) ⊎ (Mem s xs × (bytes_eq s.id r.id ≡ false))
mem-from_placed r s [] a (inl is) = inl is
mem-from_placed r s [] a (inr m) = absurd m
mem-from_placed r s (x ∷ xs) a m = placed_step r x s xs (by_id r.id x.id) refl a (mem-from_placed r s xs a.1) m

new_step : (r x : Advisory) (xs : List Advisory) (o : Ordering) → Mem r (placed r xs) → Mem r (match_ordering o (r ∷ x ∷ xs) (r ∷ xs) (x ∷ placed r xs))
new_step r x xs Less m = inl refl
new_step r x xs Equal m = inl refl
new_step r x xs Greater m = inr m

pub mem-placed : (r : Advisory) (xs : List Advisory) → Mem r (placed r xs)
mem-placed r [] = inl refl
mem-placed r (x ∷ xs) = new_step r x xs (by_id r.id x.id) (mem-placed r xs)

old_step : (r x s : Advisory) (xs : List Advisory) (o : Ordering) → by_id r.id x.id ≡ o → bytes_eq s.id r.id ≡ false → (Mem s xs → Mem s (placed r xs))
    → Mem s (x ∷ xs) → Mem s (match_ordering o (r ∷ x ∷ xs) (r ∷ xs) (x ∷ placed r xs))
old_step r x s xs Less e d later m = inr m
old_step r x s xs Equal e d later (inl is) =
    let same : bytes_eq r.id x.id ≡ true = sym (is_eq-slice_cmp r.id x.id) ∙ ap is_eq e in
    let ids : s.id ≡ r.id = ap (λ (y : Advisory). y.id) (sym is) ∙ sym (one_id r.id x.id e) in
    let twice : bytes_eq s.id r.id ≡ true = subst (λ (i : List ℕ). bytes_eq i r.id ≡ true) (sym ids) (subst (λ (i : List ℕ). bytes_eq r.id i ≡ true) (sym (one_id r.id x.id e)) same) in
    absurd cc
old_step r x s xs Equal e d later (inr m) = inr m
old_step r x s xs Greater e d later (inl is) = inl is
old_step r x s xs Greater e d later (inr m) = inr (later m)

pub mem-placed_old : (r s : Advisory) (xs : List Advisory) → bytes_eq s.id r.id ≡ false → Mem s xs → Mem s (placed r xs)
mem-placed_old r s [] d m = absurd m
mem-placed_old r s (x ∷ xs) d m = old_step r x s xs (by_id r.id x.id) refl d (mem-placed_old r s xs d) m

-- ---- the imports one after another

pub last-from_mem : (kept later : List Advisory) (s : Advisory) → Ascending kept → Mem s (records_from kept later) → (IsLastOfItsId later s) ⊎ (Mem s kept × (has_id s.id later ≡ false))
last-from_mem kept [] s a m = inr (m, refl)
last-from_mem kept (r ∷ later) s a m =
    elim (last-from_mem (placed r kept) later s (placed-ascending r kept a) m) [
      | inl l ↦ inl (record { before = r ∷ l.before; after = l.after; stands = ap (λ (xs : List Advisory). r ∷ xs) l.stands; last = l.last })
      | inr p ↦
          elim (mem-from_placed r s kept a p.0) [
            | inl is ↦ inl (record { before = []; after = later; stands = ap (λ (y : Advisory). y ∷ later) is; last = p.1 })
            | inr q ↦ inr (q.0, or_from (bytes_eq s.id r.id) (has_id s.id later) q.1 p.1)
          ]
    ]

-- one that is kept, and has no later import of its id, stays
pub stays : (kept later : List Advisory) (s : Advisory) → Mem s kept → has_id s.id later ≡ false → Mem s (records_from kept later)
stays kept [] s m none = m
stays kept (r ∷ later) s m none =
    let d = or_parts (bytes_eq s.id r.id) (has_id s.id later) none in
    stays (placed r kept) later s (mem-placed_old r s kept d.0 m) d.1

-- one that comes without a later import of its id is there at the end
pub comes : (kept before after : List Advisory) (s : Advisory) → has_id s.id after ≡ false → Mem s (records_from kept (before ++ s ∷ after))
comes kept [] after s none = stays (placed s kept) after s (mem-placed s kept) none
comes kept (r ∷ before) after s none = comes (placed r kept) before after s none

pub mem-from_last : (imports : List Advisory) (s : Advisory) → IsLastOfItsId imports s → Mem s (records imports)
mem-from_last imports s l = subst (λ (xs : List Advisory). Mem s (records xs)) (sym l.stands) (comes [] l.before l.after s l.last)

pub last-from_contains : (imports : List Advisory) (s : Advisory) → Contains (records imports) s → IsLastOfItsId imports s
last-from_contains imports s c =
    elim (last-from_mem [] imports s tt (mem-from_contains (records imports) s c.0 c.1 c.2)) [ inl l ↦ l | inr p ↦ absurd p.0 ]
