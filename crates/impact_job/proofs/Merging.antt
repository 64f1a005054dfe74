-- Advisories that ascend, and others that take their places among them.
use Rattle.std.proofs.Common.{◌≡◌, ℕ, zero, suc, ◌+◌, ◌<◌, List, [], ◌∷◌, ◌++◌, length, map, drop, get_or, Ordering, Less, Equal, Greater, refl, sym, ap, subst, ◌∙◌, append_assoc, arith}
use Rattle.std.specs.Prelude.{Option, Some, None, IfSome}
use Rattle.std.specs.Option.{option_to_list}
use Rattle.std.proofs.lemmas.Cmp.{nat_list_cmp_total}
use Rattle.osv_record.specs.Advisories.{Advisory}
use Rattle.osv_record.specs.Imports.{placed, records_from}
use Rattle.evaluate.proofs.Ascending.{by_id, turned, Below, Ascending}
use Rattle.impact_job.specs.Order.{IsSplit}
use Rattle.impact_job.proofs.Parting.{Under}

-- ---- an advisory behind those below it

placed-behind : (y : Advisory) (below rest : List Advisory) → Under below y.id → placed y (below ++ rest) ≡ below ++ placed y rest
placed-behind y [] rest u = refl
placed-behind y (x ∷ xs) rest u =
    let g : by_id y.id x.id ≡ Greater = turned x.id y.id Less u.0 in
    rw g (ap (λ (ys : List Advisory). x ∷ ys) (placed-behind y xs rest u.1))

itself_at : (a : List ℕ) (o : Ordering) → by_id a a ≡ o → by_id a a ≡ Equal
itself_at a Less e = let t : by_id a a ≡ Greater = turned a a Less e in absurd cc
itself_at a Equal e = e
itself_at a Greater e = let t : by_id a a ≡ Less = turned a a Greater e in absurd cc

pub itself : (a : List ℕ) → by_id a a ≡ Equal
itself a = itself_at a (by_id a a) refl

same-placed : (y x : Advisory) (above : List Advisory) → x.id ≡ y.id → placed y (x ∷ above) ≡ y ∷ above
same-placed y x above e =
    let at : by_id y.id x.id ≡ Equal = subst (λ (i : List ℕ). by_id y.id i ≡ Equal) (sym e) (itself y.id) in
    rw at refl

placed-first : (y : Advisory) (above : List Advisory) → Below y.id above → placed y above ≡ y ∷ above
placed-first y [] o = refl
placed-first y (x ∷ xs) o = rw o.0 refl

placed-found : (y : Advisory) (found : Option Advisory) (above : List Advisory) → IfSome found (λ r. r.id ≡ y.id) → Below y.id above → placed y (option_to_list found ++ above) ≡ y ∷ above
placed-found y None above s o = placed-first y above o
placed-found y (Some x) above s o = same-placed y x above s

-- ---- advisories that all stand behind a front

AllBehind : List Advisory → List Advisory → Type 0
AllBehind front [] = Unit {0}
AllBehind front (y ∷ ys) = Under front y.id × AllBehind front ys

records-behind : (front rest ys : List Advisory) → AllBehind front ys → records_from (front ++ rest) ys ≡ front ++ records_from rest ys
unfolding AllBehind
records-behind front rest [] b = refl
records-behind front rest (y ∷ ys) b =
    ap (λ (xs : List Advisory). records_from xs ys) (placed-behind y front rest b.0) ∙ records-behind front (placed y rest) ys b.1

under-push : (below : List Advisory) (y z : Advisory) → Under below y.id → by_id y.id z.id ≡ Less → Under (below ++ y ∷ []) z.id
under-push [] y z u less = (less, tt)
under-push (x ∷ xs) y z u less = (nat_list_cmp_total.trans x.id y.id z.id u.0 less, under-push xs y z u.1 less)

all_behind : (below : List Advisory) (y : Advisory) (ys : List Advisory) → Under below y.id → Below y.id ys → AllBehind (below ++ y ∷ []) ys
unfolding AllBehind
all_behind below y [] u o = tt
all_behind below y (z ∷ zs) u o = (under-push below y z u o.0, all_behind below y zs u o.1)

pub records-split : (rest below : List Advisory) (found : Option Advisory) (above : List Advisory) (y : Advisory) (ys : List Advisory) → IsSplit y.id rest below found above → Ascending (y ∷ ys)
    → records_from rest (y ∷ ys) ≡ (below ++ y ∷ []) ++ records_from above ys
records-split rest below found above y ys s a =
    ap (λ (xs : List Advisory). records_from (placed y xs) ys) s.whole
    ∙ ap (λ (xs : List Advisory). records_from xs ys)
    (placed-behind y below (option_to_list found ++ above) s.under
    ∙ ap (λ (xs : List Advisory). below ++ xs) (placed-found y found above s.same s.over)
    ∙ sym (append_assoc below (y ∷ []) above))
    ∙ records-behind (below ++ y ∷ []) above ys (all_behind below y ys s.under a.0)

-- ---- a turn of the loop

pub record Merging (done rest later whole : List Advisory) : Type 0 where
  pub so_far : done ++ records_from rest later ≡ whole
  pub rest_ascends : Ascending rest
  pub later_ascends : Ascending later

pub ascending-behind : (xs ys : List Advisory) → Ascending (xs ++ ys) → Ascending ys
ascending-behind [] ys a = a
ascending-behind (x ∷ xs) ys a = ascending-behind xs ys a.1

pub merging-more : (done rest below : List Advisory) (found : Option Advisory) (above : List Advisory) (y : Advisory) (ys whole : List Advisory) → Merging done rest (y ∷ ys) whole → IsSplit y.id rest below found above
    → Merging ((done ++ below) ++ y ∷ []) above ys whole
merging-more done rest below found above y ys whole m s =
    let tail : List Advisory = records_from above ys in
    record {
      so_far =
          append_assoc (done ++ below) (y ∷ []) tail ∙ append_assoc done below (y ∷ tail)
          ∙ ap (λ (xs : List Advisory). done ++ xs) (sym (append_assoc below (y ∷ []) tail) ∙ sym (records-split rest below found above y ys s m.later_ascends)) ∙ m.so_far;
      rest_ascends = ascending-behind (option_to_list found) above (ascending-behind below (option_to_list found ++ above) (subst (λ (xs : List Advisory). Ascending xs) s.whole m.rest_ascends));
      later_ascends = m.later_ascends.1;
    }

front_of : {A : Type 0} (see : A → Advisory) (xs : List A) (i : ℕ) (a : A) → i < length xs → a ≡ get_or xs i a → map see (drop i xs) ≡ see a ∷ map see (drop (suc i) xs)
front_of see [] i a lt e = absurd (omega arith)
front_of see (x ∷ xs) zero a lt e = ap (λ y. see y ∷ map see xs) (sym e)
front_of see (x ∷ xs) (suc i) a lt e = front_of see xs i a (omega arith) e

pub front-next : {A : Type 0} (see : A → Advisory) (xs : List A) (i : ℕ) (a : A) → i < length xs → a ≡ get_or xs i a → map see (drop i xs) ≡ see a ∷ map see (drop (i + 1) xs)
front-next see xs i a lt e = let k : suc i ≡ i + 1 = omega arith in front_of see xs i a lt e ∙ ap (λ (n : ℕ). see a ∷ map see (drop n xs)) k
