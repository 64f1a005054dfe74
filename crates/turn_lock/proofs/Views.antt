-- Facts on lists of views, and on histories.
use Rattle.std.proofs.Common.{◌≡◌, ◌≢◌, ◌⊎◌, ℕ, zero, suc, ◌+◌, ◌≤◌, List, [], ◌∷◌, ◌++◌, length, set, cond, Option, Some, None, Bool, true, false, true≢false, refl, sym, ap, ◌∙◌, subst, inl, inr, ⊎_elim, arith, length-append, eqb, ne_eqb, append-nil, append_assoc, ltb, lt-ltb, le-ltb, lt_of_not-le}
use Rattle.std.specs.Prelude.{All}
use Rattle.std.proofs.lemmas.List.Elements.{filter-append}
use mathlib.Core.Option.{some, some-ne-none, some-injective}
use mathlib.Core.Logic.{dite}
use native.Mathlib.Decide.{dec_le}
use lib.ListN.{get_elem?}
use Rattle.atomic_table.proofs.Lists.{at_set, at_snoc}
use mathlib.Core.List.{IsPrefix}
use Rattle.turn_lock.specs.History.{entries_by, longer}
use Rattle.turn_lock.specs.Rule.{ticket_count, waiting, Clash, NoneClash}
use Rattle.turn_lock.specs.declared.view.View.{View}

pub set_at : {A : Type 0} (l : List A) (i : ℕ) (a b : A) → get_elem? l i ≡ some a → get_elem? (set l i b) i ≡ some b
set_at [] i a b e = absurd (some-ne-none a (sym e))
set_at (x ∷ xs) zero a b e = refl
set_at (x ∷ xs) (suc i) a b e = set_at xs i a b e

pub set_off : {A : Type 0} (l : List A) (i j : ℕ) (b : A) → j ≢ i → get_elem? (set l i b) j ≡ get_elem? l j
set_off [] i j b n = refl
set_off (x ∷ xs) zero zero b n = absurd (n refl)
set_off (x ∷ xs) zero (suc j) b n = refl
set_off (x ∷ xs) (suc i) zero b n = refl
set_off (x ∷ xs) (suc i) (suc j) b n = set_off xs i j b (λ e. n (ap suc e))

pub same_at : {A : Type 0} (l : List A) (i j : ℕ) (a b : A) → get_elem? l i ≡ some a → get_elem? l j ≡ some b → i ≡ j → a ≡ b
same_at l i j a b e f same = some-injective a b (sym e ∙ ap (λ (k : ℕ). get_elem? l k) same ∙ f)

-- a fact of each member, after one is written
pub each_set : {A : Type 0} (Q : ℕ → A → Type 0) (l : List A) (i : ℕ) (w : A) → ((j : ℕ) (u : A) → j ≢ i → get_elem? l j ≡ some u → Q j u) → Q i w → (j : ℕ) (u : A) → get_elem? (set l i w) j ≡ some u → Q j u
each_set {A} Q l i w others mine j u e =
    ⊎_elim
    (λ (x : (j ≡ i) × (w ≡ u)). subst (λ (y : ℕ × A). Q y.0 y.1) (λ k. (sym x.0 k, x.1 k)) mine)
    (λ (x : (j ≢ i) × (get_elem? l j ≡ some u)). others j u x.0 x.1)
    (at_set l i j w u e)

pub each_snoc : {A : Type 0} (Q : A → Type 0) (l : List A) (w : A) → ((j : ℕ) (u : A) → get_elem? l j ≡ some u → Q u) → Q w → (j : ℕ) (u : A) → get_elem? (l ++ w ∷ []) j ≡ some u → Q u
each_snoc {A} Q l w others mine j u e = ⊎_elim (λ (x : get_elem? l j ≡ some u). others j u x) (λ (x : w ≡ u). subst Q x mine) (at_snoc l w u j e)

pub some_is : {A : Type 0} (x y : A) → Some x ≡ Some y → x ≡ y
some_is x y e = cc

pub some_is_none : {A : Type 0} {X : Type 0} (o : Option A) (x : A) → o ≡ None → o ≡ Some x → X
some_is_none o x e f = let g : None ≡ Some x = sym e ∙ f in absurd (cc)

pub not_true : (b : Bool) → ¬ (b ≡ true) → b ≡ false
not_true true n = absurd (n refl)
not_true false n = refl

pub off : {X : Type 0} (b : Bool) → b ≡ false → b ≡ true → X
off b e f = absurd (true≢false (sym f ∙ e))

module _ {E F : Type 0} where
  pub waiting-set : (vs : List (View E F)) (i : ℕ) (v w : View E F) → get_elem? vs i ≡ some v → waiting (set vs i w) + ticket_count v.ticket ≡ waiting vs + ticket_count w.ticket
  waiting-set [] i v w e = absurd (some-ne-none v (sym e))
  waiting-set (x ∷ xs) zero v w e = let same : ticket_count x.ticket ≡ ticket_count v.ticket = ap (λ (u : View E F). ticket_count u.ticket) (some-injective x v e) in omega arith
  waiting-set (x ∷ xs) (suc i) v w e = let rest = waiting-set xs i v w e in omega arith

  pub waiting-snoc : (vs : List (View E F)) (w : View E F) → waiting (vs ++ w ∷ []) ≡ waiting vs + ticket_count w.ticket
  waiting-snoc [] w = omega arith
  waiting-snoc (x ∷ xs) w = let rest = waiting-snoc xs w in omega arith

  swap : (v w : View E F) → Clash v w → Clash w v
  swap v w s = ⊎_elim (λ (x : (t : ℕ) × (v.ticket ≡ Some t) × (w.ticket ≡ Some t)). inl (x.0, x.2, x.1)) (λ (x : (n : ℕ) × (v.number ≡ Some n) × (w.number ≡ Some n)). inr (x.0, x.2, x.1)) s

  pub apart_set : (vs : List (View E F)) (i : ℕ) (w : View E F) → NoneClash vs → ((j : ℕ) (u : View E F) → j ≢ i → get_elem? vs j ≡ some u → ¬ Clash w u) → NoneClash (set vs i w)
  apart_set vs i w apart away j k u x ej ek same =
      ⊎_elim
      (λ (a : (j ≡ i) × (w ≡ u)). ⊎_elim
      (λ (b : (k ≡ i) × (w ≡ x)). a.0 ∙ sym b.0)
      (λ (b : (k ≢ i) × (get_elem? vs k ≡ some x)). absurd (away k x b.0 b.1 (subst (λ (y : View E F). Clash y x) (sym a.1) same)))
      (at_set vs i k w x ek))
      (λ (a : (j ≢ i) × (get_elem? vs j ≡ some u)). ⊎_elim
      (λ (b : (k ≡ i) × (w ≡ x)). absurd (away j u a.0 a.1 (swap u w (subst (λ (y : View E F). Clash u y) (sym b.1) same))))
      (λ (b : (k ≢ i) × (get_elem? vs k ≡ some x)). apart j k u x a.1 b.1 same)
      (at_set vs i k w x ek))
      (at_set vs i j w u ej)

  abbrev pub NoTicket : List (View E F) → ℕ → View E F → Type 0
  NoTicket vs i w = (t : ℕ) → w.ticket ≡ Some t → (j : ℕ) (u : View E F) → j ≢ i → get_elem? vs j ≡ some u → u.ticket ≢ Some t

  abbrev pub NoNumber : List (View E F) → ℕ → View E F → Type 0
  NoNumber vs i w = (n : ℕ) → w.number ≡ Some n → (j : ℕ) (u : View E F) → j ≢ i → get_elem? vs j ≡ some u → u.number ≢ Some n

  pub away : (vs : List (View E F)) (i : ℕ) (w : View E F) → NoTicket vs i w → NoNumber vs i w → (j : ℕ) (u : View E F) → j ≢ i → get_elem? vs j ≡ some u → ¬ Clash w u
  away vs i w ts ns j u ne e same =
      ⊎_elim (λ (x : (t : ℕ) × (w.ticket ≡ Some t) × (u.ticket ≡ Some t)). ts x.0 x.1 j u ne e x.2) (λ (x : (n : ℕ) × (w.number ≡ Some n) × (u.number ≡ Some n)). ns x.0 x.1 j u ne e x.2) same

  pub keeps_ticket : (vs : List (View E F)) (i : ℕ) (v w : View E F) → NoneClash vs → get_elem? vs i ≡ some v → w.ticket ≡ v.ticket → NoTicket vs i w
  keeps_ticket vs i v w apart at same t has j u ne e f = ne (sym (apart i j v u at e (inl (t, sym same ∙ has, f))))

  pub keeps_number : (vs : List (View E F)) (i : ℕ) (v w : View E F) → NoneClash vs → get_elem? vs i ≡ some v → w.number ≡ v.number → NoNumber vs i w
  keeps_number vs i v w apart at same t has j u ne e f = ne (sym (apart i j v u at e (inr (t, sym same ∙ has, f))))

  pub none_ticket : (vs : List (View E F)) (i : ℕ) (w : View E F) → w.ticket ≡ None → NoTicket vs i w
  none_ticket vs i w none t has = some_is_none w.ticket t none has

  pub none_number : (vs : List (View E F)) (i : ℕ) (w : View E F) → w.number ≡ None → NoNumber vs i w
  none_number vs i w none t has = some_is_none w.number t none has

  bare : (u x : View E F) → x.ticket ≡ None → x.number ≡ None → ¬ Clash u x
  bare u x nt nn same = ⊎_elim (λ (p : (t : ℕ) × (u.ticket ≡ Some t) × (x.ticket ≡ Some t)). some_is_none x.ticket p.0 nt p.2) (λ (p : (n : ℕ) × (u.number ≡ Some n) × (x.number ≡ Some n)). some_is_none x.number p.0 nn p.2) same

  pub apart_snoc : (vs : List (View E F)) (w : View E F) → NoneClash vs → w.ticket ≡ None → w.number ≡ None → NoneClash (vs ++ w ∷ [])
  apart_snoc [] w apart nt nn zero zero u x ej ek same = refl
  apart_snoc [] w apart nt nn zero (suc k) u x ej ek same = absurd (some-ne-none x (sym ek))
  apart_snoc [] w apart nt nn (suc j) k u x ej ek same = absurd (some-ne-none u (sym ej))
  apart_snoc (y ∷ ys) w apart nt nn zero zero u x ej ek same = refl
  apart_snoc (y ∷ ys) w apart nt nn (suc j) (suc k) u x ej ek same = ap suc (apart_snoc ys w (λ a b v v' ea eb s. let q : suc a ≡ suc b = apart (suc a) (suc b) v v' ea eb s in omega arith) nt nn j k u x ej ek same)
  apart_snoc (y ∷ ys) w apart nt nn zero (suc k) u x ej ek same =
      ⊎_elim (λ (e : get_elem? ys k ≡ some x). apart zero (suc k) u x ej e same)
      (λ (e : w ≡ x). absurd (bare u x (ap (λ (v : View E F). v.ticket) (sym e) ∙ nt) (ap (λ (v : View E F). v.number) (sym e) ∙ nn) same)) (at_snoc ys w x k ek)
  apart_snoc (y ∷ ys) w apart nt nn (suc j) zero u x ej ek same =
      ⊎_elim (λ (e : get_elem? ys j ≡ some u). apart (suc j) zero u x e ek same)
      (λ (e : w ≡ u). absurd (bare x u (ap (λ (v : View E F). v.ticket) (sym e) ∙ nt) (ap (λ (v : View E F). v.number) (sym e) ∙ nn) (swap u x same))) (at_snoc ys w u j ej)

module _ {E : Type 0} (owner : E → ℕ) where
  pub no_number : (n by : ℕ) (xs : List E) → All (λ e. owner e ≡ by) xs → n ≢ by → entries_by owner n xs ≡ []
  no_number n by [] h ne = refl
  no_number n by (x ∷ xs) h ne =
      let is : owner x ≡ by = h 0 x (omega arith) in
      let other : eqb (owner x) n ≡ false = ne_eqb (owner x) n (λ e. ne (sym e ∙ is)) in
      ap (λ b. cond b (x ∷ entries_by owner n xs) (entries_by owner n xs)) other ∙ no_number n by xs (λ k d lt. h (suc k) d (omega arith)) ne

  pub same_numbers : (n by : ℕ) (xs new : List E) → All (λ e. owner e ≡ by) new → n ≢ by → entries_by owner n (xs ++ new) ≡ entries_by owner n xs
  same_numbers n by xs new h ne = filter-append (λ e. eqb (owner e) n) xs new ∙ ap (λ l. entries_by owner n xs ++ l) (no_number n by new h ne) ∙ append-nil (entries_by owner n xs)

pub prefix_more : {E : Type 0} (xs ys new : List E) → IsPrefix xs ys → IsPrefix xs (ys ++ new)
prefix_more xs ys new p = (p.0 ++ new, sym (append_assoc xs p.0 new) ∙ ap (λ l. l ++ new) p.1)

-- of two beginnings of one list, the shorter begins the longer
pub prefix_of : {E : Type 0} (xs ys log : List E) → length xs ≤ length ys → IsPrefix xs log → IsPrefix ys log → IsPrefix xs ys
prefix_of [] ys log h p q = (ys, refl)
prefix_of (x ∷ xs) [] log h p q = absurd (omega arith)
prefix_of (x ∷ xs) (y ∷ ys) [] h p q = absurd (let e : length (x ∷ (xs ++ p.0)) ≡ 0 = ap (λ l. length l) p.1 in omega arith)
prefix_of {E} (x ∷ xs) (y ∷ ys) (z ∷ zs) h p q =
    let hd : List E → E = λ l. head_or z l in
    let one : x ≡ z = ap hd p.1 in
    let two : y ≡ z = ap hd q.1 in
    let r = prefix_of xs ys zs (omega arith) (p.0, ap tail_of p.1) (q.0, ap tail_of q.1) in
    (r.0, λ i. (one ∙ sym two) i ∷ r.1 i)
  where
    head_or : E → List E → E
    head_or d [] = d
    head_or d (a ∷ as') = a

    tail_of : List E → List E
    tail_of [] = []
    tail_of (a ∷ as') = as'

pub longer_is : {E : Type 0} (xs ys : List E) → (longer xs ys ≡ xs) ⊎ (longer xs ys ≡ ys)
longer_is xs ys = elim (ltb (length xs) (length ys)) as (λ b. (cond b ys xs ≡ xs) ⊎ (cond b ys xs ≡ ys)) [ true ↦ inr refl | false ↦ inl refl ]

-- both begin the longer
pub first_in : {E : Type 0} (xs ys log : List E) → IsPrefix xs log → IsPrefix ys log → IsPrefix xs (longer xs ys)
first_in xs ys log p q = dite (dec_le (length ys) (length xs))
    (λ h. subst (λ b. IsPrefix xs (cond b ys xs)) (sym (le-ltb (length xs) (length ys) h)) ([], append-nil xs))
    (λ h. let lt = lt_of_not-le h in subst (λ b. IsPrefix xs (cond b ys xs)) (sym (lt-ltb (length xs) (length ys) lt)) (prefix_of xs ys log (omega arith) p q))

pub second_in : {E : Type 0} (xs ys log : List E) → IsPrefix xs log → IsPrefix ys log → IsPrefix ys (longer xs ys)
second_in xs ys log p q = dite (dec_le (length ys) (length xs))
    (λ h. subst (λ b. IsPrefix ys (cond b ys xs)) (sym (le-ltb (length xs) (length ys) h)) (prefix_of ys xs log h q p))
    (λ h. let lt = lt_of_not-le h in subst (λ b. IsPrefix ys (cond b ys xs)) (sym (lt-ltb (length xs) (length ys) lt)) ([], append-nil ys))

-- a list between two that have the same entries by a caller has them too
pub between : {E : Type 0} (owner : E → ℕ) (x : ℕ) (a b c : List E) → IsPrefix a b → IsPrefix b c → entries_by owner x c ≡ entries_by owner x a → entries_by owner x c ≡ entries_by owner x b
between {E} owner x a b c p q same =
    let f : E → Bool = λ e. eqb (owner e) x in
    let one : entries_by owner x b ≡ entries_by owner x a ++ entries_by owner x p.0 = ap (entries_by owner x) (sym p.1) ∙ filter-append f a p.0 in
    let two : entries_by owner x c ≡ entries_by owner x b ++ entries_by owner x q.0 = ap (entries_by owner x) (sym q.1) ∙ filter-append f b q.0 in
    let none-new : entries_by owner x q.0 ≡ [] = nil_by_length (entries_by owner x q.0) (omega (
      arith,
      ap (λ l. length l) one,
      ap (λ l. length l) two,
      ap (λ l. length l) same,
      length-append (entries_by owner x a) (entries_by owner x p.0),
      length-append (entries_by owner x b) (entries_by owner x q.0),
    )) in
    two ∙ ap (λ l. entries_by owner x b ++ l) none-new ∙ append-nil (entries_by owner x b)
  where
    nil_by_length : {E : Type 0} (l : List E) → length l ≡ 0 → l ≡ []
    nil_by_length [] e = refl
    nil_by_length (y ∷ ys) e = absurd (omega arith)
