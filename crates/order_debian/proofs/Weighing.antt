-- How the order of two parts follows from their first turns.
use Rattle.std.proofs.Common.{◌≡◌, ◌≢◌, ℕ, suc, ◌+◌, ◌-◌, ◌<◌, ◌≤◌, true, List, [], ◌∷◌, length, map, take, refl, sym, ap, ◌∙◌, arith, inl, inr}
use Rattle.std.proofs.lemmas.Bool.{cases_Bool}
use Rattle.std.specs.Char.{is_ascii_digit}
use Rattle.std.specs.Ordering.{ordering_then}
use Rattle.std.specs.declared.cmp.Ordering.{Ordering}
use Rattle.std.specs.declared.cmp.Ordering.TheVariants.{Less, Equal, Greater}
use Rattle.osv_prim.specs.Digits.{behind_digits, digit_front, filled, filled_cmp, number}
use Rattle.osv_prim.proofs.Runs.{behind_shorter}
use Rattle.order_debian.specs.Cuts.{front, behind_front, first_weight, later}
use Rattle.order_debian.specs.Turns.{Turn, Weight, character_before, digit_before, no_weight, ranks, turns, weight, weight_cmp, weights, weights_cmp}

digit_other : (d c : ℕ) (ts : List Turn) → digit_before d (character_before c ts) ≡ ([], d ∷ []) ∷ character_before c ts
digit_other d c [] = refl
digit_other d c (t ∷ ts) = refl

-- a part that begins with a digit
digits_first : (d : ℕ) (cs : List ℕ) → is_ascii_digit d ≡ true → turns (d ∷ cs) ≡ ([], digit_front (d ∷ cs)) ∷ turns (behind_digits (d ∷ cs))
unfolding turns digit_front behind_digits
digits_first d [] e = rw e refl
digits_first d (c ∷ cs) e = elim (cases_Bool (is_ascii_digit c)) [
  | inl digit ↦ let r = digits_first c cs digit in rw (e, digit) (ap (digit_before d) (rw digit at r))
  | inr other ↦ rw (e, other, other) (digit_other d c (turns cs))
]

-- the first turn of a part and the turns behind it
turns_by : (c : ℕ) (cs : List ℕ) → turns (c ∷ cs) ≡ (front (c ∷ cs), digit_front (behind_front (c ∷ cs))) ∷ turns (later (c ∷ cs))
unfolding turns front behind_front digit_front behind_digits
turns_by c [] = elim (cases_Bool (is_ascii_digit c)) [
  | inl digit ↦ let r = digits_first c [] digit in rw (digit, digit) (rw digit at r)
  | inr other ↦ rw other refl
]
turns_by c (e ∷ es) = elim (cases_Bool (is_ascii_digit c)) [
  | inl digit ↦ let r = digits_first c (e ∷ es) digit in rw (digit, digit) (rw digit at r)
  | inr other ↦ let r = turns_by e es in rw other (ap (character_before c) r)
]

weights_by : (c : ℕ) (cs : List ℕ) → weights (c ∷ cs) ≡ first_weight (c ∷ cs) ∷ weights (later (c ∷ cs))
weights_by c cs = ap (map weight) (turns_by c cs)

-- two lists that are filled, from their firsts
filled_left : (w : Weight) (ws : List Weight) → weights_cmp [] (w ∷ ws) ≡ ordering_then (weight_cmp no_weight w) (weights_cmp [] ws)
unfolding filled filled_cmp
filled_left w ws = refl

filled_right : (w : Weight) (ws : List Weight) → weights_cmp (w ∷ ws) [] ≡ ordering_then (weight_cmp w no_weight) (weights_cmp ws [])
unfolding filled filled_cmp
filled_right w ws = refl

filled_both : (v w : Weight) (vs ws : List Weight) → weights_cmp (v ∷ vs) (w ∷ ws) ≡ ordering_then (weight_cmp v w) (weights_cmp vs ws)
unfolding filled filled_cmp
filled_both v w vs ws = refl

-- the first turns decide, and where they tie the turns behind them
by_turns : (a b : List ℕ) → weights_cmp (weights a) (weights b) ≡ ordering_then (weight_cmp (first_weight a) (first_weight b)) (weights_cmp (weights (later a)) (weights (later b)))
unfolding turns front behind_front digit_front behind_digits number filled filled_cmp
by_turns [] [] = refl
by_turns [] (y ∷ ys) = ap (weights_cmp []) (weights_by y ys) ∙ filled_left (first_weight (y ∷ ys)) (weights (later (y ∷ ys)))
by_turns (x ∷ xs) [] = ap (λ (w : List Weight). weights_cmp w []) (weights_by x xs) ∙ filled_right (first_weight (x ∷ xs)) (weights (later (x ∷ xs)))
by_turns (x ∷ xs) (y ∷ ys) =
    ap (λ (w : List Weight). weights_cmp w (weights (y ∷ ys))) (weights_by x xs) ∙ ap (weights_cmp (first_weight (x ∷ xs) ∷ weights (later (x ∷ xs)))) (weights_by y ys)
    ∙ filled_both (first_weight (x ∷ xs)) (first_weight (y ∷ ys)) (weights (later (x ∷ xs))) (weights (later (y ∷ ys)))

then_other : (r s : Ordering) → r ≢ Equal → ordering_then r s ≡ r
then_other Less s ne = refl
then_other Equal s ne = absurd (ne refl)
then_other Greater s ne = refl

-- what two turns weigh, by their parts
weighed : (a b fa da fb db : List ℕ) (r : Ordering) → fa ≡ front a → da ≡ digit_front (behind_front a) → fb ≡ front b → db ≡ digit_front (behind_front b)
    → r ≡ weight_cmp (ranks fa, number da) (ranks fb, number db) → r ≡ weight_cmp (first_weight a) (first_weight b)
weighed a b fa da fb db r p q p' q' e =
    e ∙ ap (λ (f : List ℕ). weight_cmp (ranks f, number da) (ranks fb, number db)) p ∙ ap (λ (d : List ℕ). weight_cmp (ranks (front a), number d) (ranks fb, number db)) q
    ∙ ap (λ (f : List ℕ). weight_cmp (first_weight a) (ranks f, number db)) p' ∙ ap (λ (d : List ℕ). weight_cmp (first_weight a) (ranks (front b), number d)) q'

pub decides : (a b fa da fb db : List ℕ) (r : Ordering) → fa ≡ front a → da ≡ digit_front (behind_front a) → fb ≡ front b → db ≡ digit_front (behind_front b)
    → r ≡ weight_cmp (ranks fa, number da) (ranks fb, number db) → r ≢ Equal → r ≡ weights_cmp (weights a) (weights b)
decides a b fa da fb db r p q p' q' e ne =
    let w = weighed a b fa da fb db r p q p' q' e in
    w ∙ sym (then_other _ (weights_cmp (weights (later a)) (weights (later b))) (λ t. ne (w ∙ t))) ∙ sym (by_turns a b)

pub goes_on : (a b fa da fb db : List ℕ) (r : Ordering) → fa ≡ front a → da ≡ digit_front (behind_front a) → fb ≡ front b → db ≡ digit_front (behind_front b)
    → r ≡ weight_cmp (ranks fa, number da) (ranks fb, number db) → r ≡ Equal → weights_cmp (weights (later a)) (weights (later b)) ≡ weights_cmp (weights a) (weights b)
goes_on a b fa da fb db r p q p' q' e tie =
    let w = weighed a b fa da fb db r p q p' q' e in
    ap (λ (o : Ordering). ordering_then o (weights_cmp (weights (later a)) (weights (later b)))) (sym tie ∙ w) ∙ sym (by_turns a b)

pub are_used : (a b : List ℕ) → length a + length b ≡ 0 → weights_cmp (weights a) (weights b) ≡ Equal
unfolding turns filled filled_cmp
are_used [] [] h = refl
are_used (x ∷ xs) b h = absurd (omega arith)
are_used [] (y ∷ ys) h = absurd (omega arith)

-- a turn takes something of a part that isn't empty
pub front_shorter : (cs : List ℕ) → length (behind_front cs) ≤ length cs
unfolding behind_front
front_shorter [] = omega arith
front_shorter (c ∷ cs) = elim (cases_Bool (is_ascii_digit c)) [
  | inl digit ↦ rw digit (omega arith)
  | inr other ↦ let r = front_shorter cs in rw other (omega arith)
]

later_shorter : (c : ℕ) (cs : List ℕ) → length (later (c ∷ cs)) < length (c ∷ cs)
unfolding behind_front behind_digits
later_shorter c cs = elim (cases_Bool (is_ascii_digit c)) [
  | inl digit ↦ let r = behind_shorter cs in rw (digit, digit) (omega arith)
  | inr other ↦ let r = behind_shorter (behind_front cs) in let f = front_shorter cs in rw other (omega arith)
]

later_no_longer : (cs : List ℕ) → length (later cs) ≤ length cs
later_no_longer cs = let r = behind_shorter (behind_front cs) in let f = front_shorter cs in omega arith

pub shorter : (a b : List ℕ) → 0 < length a + length b → length (later a) + length (later b) < length a + length b
shorter [] [] h = absurd (omega arith)
shorter (x ∷ xs) b h = let l = later_shorter x xs in let r = later_no_longer b in omega arith
shorter [] (y ∷ ys) h = let l = later_no_longer [] in let r = later_shorter y ys in omega arith

-- cutting by length
pub front_cut : (cs : List ℕ) → take (length cs - length (behind_front cs)) cs ≡ front cs
unfolding front behind_front
front_cut [] = refl
front_cut (c ∷ cs) = elim (cases_Bool (is_ascii_digit c)) [
  | inl digit ↦ let none : length (c ∷ cs) - length (c ∷ cs) ≡ 0 = omega arith in rw (digit, none) refl
  | inr other ↦
      let le = front_shorter cs in
      let one : length (c ∷ cs) - length (behind_front cs) ≡ suc (length cs - length (behind_front cs)) = omega arith in
      rw (other, one) (ap (λ (x : List ℕ). c ∷ x) (front_cut cs))
]
