-- The numbers of texts, as more are numbered.
use Rattle.std.proofs.Common.{◌≡◌, ℕ, ◌+◌, ◌<◌, inl, inr, Bool, false, true, not, ◌||◌, cond, eqb, ltb, List, [], ◌∷◌, ◌++◌, length, get_or, position, Option, Some, None, zero, suc, take, refl, sym, ap, ◌∙◌, arith}
use Rattle.std.specs.Prelude.{option_map}
use Rattle.std.specs.List.{list_any, position_or_len, IsDistinct, AllByRecursion}
use Rattle.std.specs.Str.{bytes_eq}
use Rattle.std.proofs.lemmas.Bool.{cases_lt, cases_eq, cases_Bool, eq-eqb, ne_eqb, lt-ltb, ltb-true, false_from_ne_true, true≢false}
use Rattle.std.proofs.lemmas.List.{length-append, get_or_append_left}
use Rattle.std.proofs.lemmas.List.Folds.{list_any_none, list_any-append, position_or_len_push}
use Rattle.std.proofs.lemmas.List.Quantifiers.{position-Some}
use Rattle.std.proofs.lemmas.List.Sums.{position_or_len_is, fails_before_first, prefix_len-le-length}
use Rattle.std.proofs.lemmas.Slice.Eq.{bytes_eq-Decides}
use Rattle.package_index.specs.Numbers.{number_of, IsKept}

-- ---- the first member that passes a test

module _ {X : Type 0} (p : X → Bool) where
  at-first : (xs : List X) (a : ℕ) → a < length xs → position_or_len p xs ≡ a → position p xs ≡ Some a
  at-first xs a lt is = ap (λ (k : ℕ). cond (ltb k (length xs)) (Some k) None) is ∙ ap (λ (b : Bool). cond b (Some a) None) (lt-ltb a (length xs) lt)

  past-end : (xs : List X) → position p xs ≡ None → position_or_len p xs ≡ length xs
  past-end xs none =
      elim (cases_lt (position_or_len p xs) (length xs)) [
        | inl lt ↦ let found = at-first xs (position_or_len p xs) lt refl in absurd cc
        | inr le ↦ omega (arith, prefix_len-le-length (λ x. not (p x)) xs)
      ]

  pub none-passes : (xs : List X) → position p xs ≡ None → list_any p xs ≡ false
  none-passes xs none =
      let all = past-end xs none in
      list_any_none p xs (λ i d lt. fails_before_first p xs i d (omega (arith, all, lt)))

  pub some-stays : (xs : List X) (y : X) (a : ℕ) → position p xs ≡ Some a → position p (xs ++ y ∷ []) ≡ Some a
  some-stays xs y a found =
      let within : a < length xs = (position-Some p xs a y found).0 in
      let more : a < length (xs ++ y ∷ []) = omega (arith, length-append xs (y ∷ [])) in
      at-first (xs ++ y ∷ []) a more
      (position_or_len_is p (xs ++ y ∷ []) a y (omega arith)
      (λ k lt. ap p (get_or_append_left xs (y ∷ []) y k (omega arith)) ∙ (position-Some p xs a y found).2 k lt)
      (λ lt. ap p (get_or_append_left xs (y ∷ []) y a within) ∙ (position-Some p xs a y found).1))

  pub none-next : (xs : List X) (y : X) → position p xs ≡ None → position p (xs ++ y ∷ []) ≡ cond (p y) (Some (length xs)) None
  none-next xs y none =
      let end = past-end xs none in
      let n = length xs in
      let here : position_or_len p (xs ++ y ∷ []) ≡ n + cond (p y) 0 1 =
      position_or_len_push p xs y ∙ ap (λ (k : ℕ). cond (eqb k n) (n + cond (p y) 0 1) k) end ∙ ap (λ (b : Bool). cond b (n + cond (p y) 0 1) n) (eq-eqb n n refl) in
      elim (cases_Bool (p y)) [
        | inl passes ↦
            at-first (xs ++ y ∷ []) n (omega (arith, length-append xs (y ∷ []))) (here ∙ ap (λ (b : Bool). n + cond b 0 1) passes ∙ omega arith) ∙ sym (ap (λ (b : Bool). cond b (Some n) None) passes)
        | inr fails ↦
            ap (λ (k : ℕ). cond (ltb k (length (xs ++ y ∷ []))) (Some k) None) (here ∙ ap (λ (b : Bool). n + cond b 0 1) fails)
            ∙ ap (λ (b : Bool). cond b (Some (n + 1)) None) (false_from_ne_true (ltb (n + 1) (length (xs ++ y ∷ []))) (λ h. omega (arith, ltb-true (n + 1) (length (xs ++ y ∷ [])) h, length-append xs (y ∷ []))))
            ∙ sym (ap (λ (b : Bool). cond b (Some n) None) fails)
      ]

  parts-false : (b c : Bool) → (b || c) ≡ false → (b ≡ false) × (c ≡ false)
  parts-false true c h = absurd (true≢false h)
  parts-false false c h = (refl, h)

  -- behind members that fail
  late : (xs ys : List X) → list_any p xs ≡ false → position_or_len p (xs ++ ys) ≡ length xs + position_or_len p ys
  late [] ys h = omega arith
  late (x ∷ xs) ys h =
      let parts = parts-false (p x) (list_any p xs) h in
      let rest = late xs ys parts.1 in
      ap (λ (b : Bool). cond (not b) (1 + position_or_len p (xs ++ ys)) 0) parts.0 ∙ omega (arith, rest)

  pub some-before : (xs ys : List X) (d : X) (a : ℕ) → position p xs ≡ Some a → position p (xs ++ ys) ≡ Some a
  some-before xs ys d a found =
      let within : a < length xs = (position-Some p xs a d found).0 in
      let more : a < length (xs ++ ys) = omega (arith, within, length-append xs ys) in
      at-first (xs ++ ys) a more
      (position_or_len_is p (xs ++ ys) a d (omega (arith, more))
      (λ k lt. ap p (get_or_append_left xs ys d k (omega (arith, lt, within))) ∙ (position-Some p xs a d found).2 k lt)
      (λ lt. ap p (get_or_append_left xs ys d a within) ∙ (position-Some p xs a d found).1))

  pub none-before : (xs ys : List X) → position p xs ≡ None → position p (xs ++ ys) ≡ option_map (λ k. length xs + k) (position p ys)
  none-before xs ys none =
      let n = length xs in
      let q = position_or_len p ys in
      let long = length-append xs ys in
      let first = ap (λ (k : ℕ). cond (ltb k (length (xs ++ ys))) (Some k) None) (late xs ys (none-passes xs none)) in
      elim (cases_lt q (length ys)) [
        | inl lt ↦
            first ∙ ap (λ (b : Bool). cond b (Some (n + q)) None) (lt-ltb (n + q) (length (xs ++ ys)) (omega (arith, lt, long)))
            ∙ sym (ap (λ (b : Bool). option_map (λ k. n + k) (cond b (Some q) None)) (lt-ltb q (length ys) lt))
        | inr le ↦
            first
            ∙ ap (λ (b : Bool). cond b (Some (n + q)) None) (false_from_ne_true (ltb (n + q) (length (xs ++ ys))) (λ h. omega (arith, ltb-true (n + q) (length (xs ++ ys)) h, le, long)))
            ∙ sym (ap (λ (b : Bool). option_map (λ k. n + k) (cond b (Some q) None)) (false_from_ne_true (ltb q (length ys)) (λ h. omega (arith, ltb-true q (length ys) h, le))))
      ]

-- ---- numbers

pub number-within : (texts : List (List ℕ)) (t : List ℕ) (n : ℕ) → number_of texts t ≡ Some n → n < length texts
number-within texts t n is = (position-Some (bytes_eq t) texts n [] is).0

number-text : (texts : List (List ℕ)) (t : List ℕ) (n : ℕ) → number_of texts t ≡ Some n → t ≡ get_or texts n []
number-text texts t n is = (bytes_eq-Decides t (get_or texts n [])).0 (position-Some (bytes_eq t) texts n [] is).1

some-same : (a b : ℕ) → Some a ≡ Some b → a ≡ b
some-same a b e = cc

none-some : (a : ℕ) → None ≡ Some a → ⊥
none-some a e = cc

pub same-number : (texts : List (List ℕ)) (t u : List ℕ) (x n : ℕ) → number_of texts t ≡ Some x → number_of texts u ≡ Some n → eqb n x ≡ bytes_eq t u
same-number texts t u x n t_is u_is =
    elim (cases_eq n x) [
      | inl same ↦
          eq-eqb n x same ∙ sym ((bytes_eq-Decides t u).1 (number-text texts t x t_is ∙ ap (λ (k : ℕ). get_or texts k []) (sym same) ∙ sym (number-text texts u n u_is)))
      | inr other ↦
          ne_eqb n x other ∙ sym (false_from_ne_true (bytes_eq t u) (λ h. other (some-same n x (sym u_is ∙ sym (ap (number_of texts) ((bytes_eq-Decides t u).0 h)) ∙ t_is))))
    ]

pub no-number : (texts : List (List ℕ)) (t u : List ℕ) (n : ℕ) → number_of texts t ≡ None → number_of texts u ≡ Some n → bytes_eq t u ≡ false
no-number texts t u n none u_is = false_from_ne_true (bytes_eq t u) (λ h. none-some n (sym none ∙ ap (number_of texts) ((bytes_eq-Decides t u).0 h) ∙ u_is))

pub turned : (t u : List ℕ) → bytes_eq t u ≡ bytes_eq u t
turned t u =
    elim (cases_Bool (bytes_eq t u)) [
      | inl same ↦ same ∙ sym ((bytes_eq-Decides u t).1 (sym ((bytes_eq-Decides t u).0 same)))
      | inr other ↦ other ∙ sym (false_from_ne_true (bytes_eq u t) (λ h. true≢false (sym ((bytes_eq-Decides t u).1 (sym ((bytes_eq-Decides u t).0 h))) ∙ other)))
    ]

-- a text more
pub numbered : (texts : List (List ℕ)) (text : List ℕ) → number_of texts text ≡ None → number_of (texts ++ text ∷ []) text ≡ Some (length texts)
numbered texts text none = none-next (bytes_eq text) texts text none ∙ ap (λ (b : Bool). cond b (Some (length texts)) None) ((bytes_eq-Decides text text).1 refl)

pub kept : (texts : List (List ℕ)) (text : List ℕ) (t : List ℕ) → IsKept (length texts) (number_of texts t) (number_of (texts ++ text ∷ []) t)
kept texts text t = by (number_of texts t) refl
  where
    by : (o : Option ℕ) → number_of texts t ≡ o → IsKept (length texts) (number_of texts t) (number_of (texts ++ text ∷ []) t)
    by (Some a) is = inl (some-stays (bytes_eq t) texts text a is ∙ sym is)
    by None is =
        elim (cases_Bool (bytes_eq t text)) [
          | inl same ↦ inr (is, none-next (bytes_eq t) texts text is ∙ ap (λ (b : Bool). cond b (Some (length texts)) None) same)
          | inr other ↦ inl (none-next (bytes_eq t) texts text is ∙ ap (λ (b : Bool). cond b (Some (length texts)) None) other ∙ sym is)
        ]

-- ---- texts that differ

all-at : {X : Type 0} (P : X → Type 0) (xs : List X) (k : ℕ) (d : X) → AllByRecursion P xs → k < length xs → P (get_or xs k d)
all-at P [] k d all lt = absurd (omega (arith, lt))
all-at P (x ∷ xs) zero d all lt = all.0
all-at P (x ∷ xs) (suc k) d all lt = all-at P xs k d all.1 (omega (arith, lt))

pub none-before-it : (texts : List (List ℕ)) (k : ℕ) (d : List ℕ) → IsDistinct bytes_eq texts → k < length texts → list_any (bytes_eq (get_or texts k d)) (take k texts) ≡ false
unfolding IsDistinct
none-before-it [] k d apart lt = absurd (omega (arith, lt))
none-before-it (t ∷ texts) zero d apart lt = refl
none-before-it (t ∷ texts) (suc k) d apart lt =
    let y = get_or texts k d in
    ap (λ (b : Bool). b || list_any (bytes_eq y) (take k texts)) (turned y t ∙ all-at (λ u. bytes_eq t u ≡ false) texts k d apart.0 (omega (arith, lt))) ∙ none-before-it texts k d apart.1 (omega (arith, lt))

-- a text that isn't there goes last
pub inserted : (texts new : List (List ℕ)) (text copy : List ℕ) → list_any (bytes_eq text) texts ≡ false → copy ≡ text → new ≡ cond (list_any (bytes_eq copy) texts) texts (texts ++ copy ∷ []) → new ≡ texts ++ text ∷ []
inserted texts new text copy absent same is =
    is ∙ ap (λ (t : List ℕ). cond (list_any (bytes_eq t) texts) texts (texts ++ t ∷ [])) same ∙ ap (λ (b : Bool). cond b texts (texts ++ text ∷ [])) absent

-- a text that is nowhere is not among the later ones
pub absent-own : (shared own : List (List ℕ)) (text : List ℕ) → number_of (shared ++ own) text ≡ None → list_any (bytes_eq text) own ≡ false
absent-own shared own text absent = second-false (list_any (bytes_eq text) shared) (list_any (bytes_eq text) own) (sym (list_any-append (bytes_eq text) shared own) ∙ none-passes (bytes_eq text) (shared ++ own) absent)
  where
    second-false : (b c : Bool) → (b || c) ≡ false → c ≡ false
    second-false true c h = absurd (true≢false h)
    second-false false c h = h
