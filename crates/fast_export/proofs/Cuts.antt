-- Where the first line of a text ends.
use Rattle.std.proofs.Common.{◌≡◌, ℕ, suc, ◌+◌, ◌<◌, ◌≤◌, Bool, true, false, cond, ltb, eqb, not, List, [], ◌∷◌, ◌++◌, length, take, drop, get_or, length-append, append_assoc, refl, sym, ap, ◌∙◌, arith}
use Rattle.std.specs.Prelude.{Some, None}
use Rattle.std.specs.List.{position_or_len, position}
use Rattle.std.proofs.lemmas.List.{take_at, drop_at, drop_more, take-append-drop, length-take-le, get_or-take}
use Rattle.std.proofs.lemmas.List.Sums.{passes_at_first, fails_before_first, position_or_len_is}
use Rattle.std.proofs.lemmas.Bool.Decides.{nat_tests}
use Rattle.fast_export.specs.Lines.{is_lf, max_line_bytes, IsClean, Line, Nothing, Cut, TooLong, line_of}

clean-tail : (c : ℕ) (cs : List ℕ) → IsClean (c ∷ cs) → (is_lf c ≡ false) × IsClean cs
clean-tail c cs h = cases (is_lf c) (position_or_len is_lf cs) (length cs) refl h
  where
    cases : (b : Bool) (m n : ℕ) → is_lf c ≡ b → cond (not b) (1 + m) 0 ≡ suc n → (is_lf c ≡ false) × (m ≡ n)
    cases true m n e h = absurd (omega arith)
    cases false m n e h = (e, omega arith)

-- the first LF lies behind a text without one
first-behind : (xs ys : List ℕ) → IsClean xs → position_or_len is_lf (xs ++ ys) ≡ length xs + position_or_len is_lf ys
first-behind [] ys h = omega arith
first-behind (x ∷ xs) ys h =
    let t = clean-tail x xs h in
    let e : is_lf x ≡ false = t.0 in
    let i = first-behind xs ys t.1 in
    rw e (omega (arith, i))

pub clean-append : (xs ys : List ℕ) → IsClean xs → IsClean ys → IsClean (xs ++ ys)
clean-append xs ys h k = first-behind xs ys h ∙ omega (arith, length-append xs ys, k)

lf-first : (ys : List ℕ) → position_or_len is_lf (10 ∷ ys) ≡ 0
lf-first ys = refl

lined : (p n : ℕ) (before after : List ℕ) → p ≤ max_line_bytes → p < n → cond (ltb max_line_bytes p) TooLong (cond (ltb p n) (Line before after) (cond (eqb n 0) Nothing Cut)) ≡ Line before after
lined p n before after a b =
    let e : ltb max_line_bytes p ≡ false = grind (arith, nat_tests) in
    let g : ltb p n ≡ true = grind (arith, nat_tests) in
    rw (e, g) refl

pub line-whole : (xs more : List ℕ) → IsClean xs → length xs ≤ max_line_bytes → line_of (xs ++ 10 ∷ more) ≡ Line xs more
unfolding line_of
line-whole xs more h le =
    let p : position_or_len is_lf (xs ++ 10 ∷ more) ≡ length xs = first-behind xs (10 ∷ more) h ∙ omega arith in
    rw p (
    lined (length xs) (length (xs ++ 10 ∷ more)) (take (length xs) (xs ++ 10 ∷ more)) (drop (length xs + 1) (xs ++ 10 ∷ more)) le (omega (arith, length-append xs (10 ∷ more)))
    ∙ ap (λ (l : List ℕ). Line l (drop (length xs + 1) (xs ++ 10 ∷ more))) (take_at xs (10 ∷ more) (length xs) refl)
    ∙ ap (λ (l : List ℕ). Line xs l) (behind xs more)
    )
  where
    behind : (xs more : List ℕ) → drop (length xs + 1) (xs ++ 10 ∷ more) ≡ more
    behind xs more = ap (drop (length xs + 1)) (sym (append_assoc xs (10 ∷ []) more)) ∙ drop_at (xs ++ 10 ∷ []) more (length xs + 1) (length-append xs (10 ∷ []))

pub line-too_long : (xs more : List ℕ) → IsClean xs → max_line_bytes < length xs → line_of (xs ++ more) ≡ TooLong
unfolding line_of
line-too_long xs more h lt =
    let q = first-behind xs more h in
    let e : ltb max_line_bytes (position_or_len is_lf (xs ++ more)) ≡ true = rw q (grind (arith, nat_tests)) in
    rw e refl

pub line-cut : (xs : List ℕ) → IsClean xs → length xs ≤ max_line_bytes → 0 < length xs → line_of xs ≡ Cut
unfolding line_of
line-cut xs h le lt =
    let p : position_or_len is_lf xs ≡ length xs = h in
    let e : ltb max_line_bytes (length xs) ≡ false = grind (arith, nat_tests) in
    let g : ltb (length xs) (length xs) ≡ false = grind (arith, nat_tests) in
    let k : eqb (length xs) 0 ≡ false = grind (arith, nat_tests) in
    rw (p, e, g, k) refl

pub line-nothing : line_of [] ≡ Nothing
unfolding line_of
line-nothing = refl

-- what a search for LF finds

one : (b : Bool) (m n : ℕ) → m ≤ n → cond (not b) (1 + m) 0 ≤ suc n
one true m n h = omega arith
one false m n h = omega arith

first-within : (xs : List ℕ) → position_or_len is_lf xs ≤ length xs
first-within [] = omega arith
first-within (x ∷ xs) = one (is_lf x) (position_or_len is_lf xs) (length xs) (first-within xs)

is_ten : (c : ℕ) → is_lf c ≡ true → c ≡ 10
is_ten c e = grind (arith, nat_tests)

index : (b : Bool) (p n : ℕ) → Some n ≡ cond b (Some p) None → (b ≡ true) × (p ≡ n)
index true p n e = (refl, cc)
index false p n e = absurd cc

no_index : (b : Bool) (p : ℕ) → None ≡ cond b (Some p) None → b ≡ false
no_index true p e = absurd cc
no_index false p e = refl

pub cut_none : (xs : List ℕ) → None ≡ position is_lf xs → IsClean xs
cut_none xs e =
    let b = no_index (ltb (position_or_len is_lf xs) (length xs)) (position_or_len is_lf xs) e in
    let le : length xs ≤ position_or_len is_lf xs = grind (arith, nat_tests) in
    omega (arith, first-within xs)

pub cut_some : (xs : List ℕ) (n : ℕ) → Some n ≡ position is_lf xs → (n < length xs) × IsClean (take n xs) × (xs ≡ take n xs ++ 10 ∷ drop (n + 1) xs)
cut_some xs n e =
    let b = index (ltb (position_or_len is_lf xs) (length xs)) (position_or_len is_lf xs) n e in
    let at : position_or_len is_lf xs ≡ n = b.1 in
    let test : ltb (position_or_len is_lf xs) (length xs) ≡ true = b.0 in
    let below : position_or_len is_lf xs < length xs = grind (arith, nat_tests) in
    let lt : n < length xs = omega arith in
    let len : length (take n xs) ≡ n = length-take-le n xs (omega arith) in
    let ten : get_or xs (position_or_len is_lf xs) 0 ≡ 10 = is_ten _ (passes_at_first is_lf xs 0 below) in
    let ten_at : get_or xs n 0 ≡ 10 = sym (ap (λ (k : ℕ). get_or xs k 0) at) ∙ ten in (
      lt,
      position_or_len_is is_lf (take n xs) n 0 (omega arith) (λ k h. ap is_lf (get_or-take n xs k 0 h) ∙ fails_before_first is_lf xs k 0 (omega arith)) (λ h. absurd (omega arith)) ∙ sym len,
      sym (take-append-drop n xs) ∙ ap (λ (l : List ℕ). take n xs ++ l) (drop_more xs n 0 lt ∙ ap (λ (c : ℕ). c ∷ drop (n + 1) xs) ten_at),
    )
