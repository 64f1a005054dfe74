-- White space at the end of a text.
use Rattle.std.proofs.Common.{◌≡◌, ℕ, suc, ◌-◌, ◌<◌, ◌≤◌, Bool, true, false, cond, List, [], ◌∷◌, ◌++◌, length, take, get_or, reverse, refl, sym, ap, ◌∙◌, arith}
use Rattle.std.proofs.Math.Seq.{take-suc}
use Rattle.std.proofs.lemmas.List.{reverse-append, reverse-reverse}
use Rattle.order_pypi.specs.Grammar.{is_space, trim_end, trim_start}

trimmed_by : (x : ℕ) (rest : List ℕ) → trim_start (x ∷ rest) ≡ cond (is_space x) (trim_start rest) (x ∷ rest)
unfolding trim_start
trimmed_by x rest = refl

turned : (b : Bool) (xs ys : List ℕ) → reverse (cond b xs ys) ≡ cond b (reverse xs) (reverse ys)
turned true xs ys = refl
turned false xs ys = refl

added : (ys : List ℕ) (x : ℕ) → trim_end (ys ++ x ∷ []) ≡ cond (is_space x) (trim_end ys) (ys ++ x ∷ [])
unfolding trim_end
added ys x =
    let last : reverse (ys ++ x ∷ []) ≡ x ∷ reverse ys = reverse-append ys (x ∷ []) in
    ap (λ (l : List ℕ). reverse (trim_start l)) last ∙ ap reverse (trimmed_by x (reverse ys)) ∙ turned (is_space x) (trim_start (reverse ys)) (x ∷ reverse ys)
    ∙ ap (λ (l : List ℕ). cond (is_space x) (trim_end ys) l) (ap reverse (sym last) ∙ reverse-reverse (ys ++ x ∷ []))

by_last : (xs : List ℕ) (e : ℕ) → 0 < e → e ≤ length xs → trim_end (take e xs) ≡ cond (is_space (get_or xs (e - 1) 0)) (trim_end (take (e - 1) xs)) (take e xs)
by_last xs e some within =
    let lt : e - 1 < length xs = omega arith in
    let next : e ≡ suc (e - 1) = omega arith in
    let whole : take e xs ≡ take (e - 1) xs ++ get_or xs (e - 1) 0 ∷ [] = ap (λ (n : ℕ). take n xs) next ∙ take-suc xs (e - 1) 0 lt in
    ap trim_end whole ∙ added (take (e - 1) xs) (get_or xs (e - 1) 0) ∙ ap (λ (l : List ℕ). cond (is_space (get_or xs (e - 1) 0)) (trim_end (take (e - 1) xs)) l) (sym whole)

pub space_ends : (xs : List ℕ) (e : ℕ) → 0 < e → e ≤ length xs → is_space (get_or xs (e - 1) 0) ≡ true → trim_end (take (e - 1) xs) ≡ trim_end (take e xs)
space_ends xs e some within space = sym (by_last xs e some within ∙ ap (λ (b : Bool). cond b (trim_end (take (e - 1) xs)) (take e xs)) space)

pub other_ends : (xs : List ℕ) (e : ℕ) → 0 < e → e ≤ length xs → is_space (get_or xs (e - 1) 0) ≡ false → take e xs ≡ trim_end (take e xs)
other_ends xs e some within other = sym (by_last xs e some within ∙ ap (λ (b : Bool). cond b (trim_end (take (e - 1) xs)) (take e xs)) other)

pub all_space : (xs : List ℕ) (e : ℕ) → e ≡ 0 → take e xs ≡ trim_end (take e xs)
unfolding trim_end trim_start
all_space xs e zero = rw zero refl
