-- The digits at a place of a text, one by one.
use Rattle.std.proofs.Common.{◌≡◌, ℕ, suc, ◌+◌, ◌-◌, ◌*◌, ◌<◌, ◌≤◌, List, [], ◌∷◌, length, take, drop, drop-cons, get_or, sym, ap, ◌∙◌, add-one, arith}
use Rattle.osv_prim.specs.Digits.{number}

-- two digits
number-two : (a b : ℕ) → number (a ∷ b ∷ []) ≡ (a - 48) * 10 + (b - 48)
unfolding number
number-two a b = omega arith

number-four : (a b c d : ℕ) → number (a ∷ b ∷ c ∷ d ∷ []) ≡ number (a ∷ b ∷ []) * 100 + number (c ∷ d ∷ [])
unfolding number
number-four a b c d = omega arith

take-two : (xs : List ℕ) (at : ℕ) → at + 2 ≤ length xs → take 2 (drop at xs) ≡ get_or xs at 0 ∷ get_or xs (at + 1) 0 ∷ []
take-two xs at room =
    let one : at < length xs = omega arith in
    let two : at + 1 < length xs = omega arith in
    ap (take 2) (drop-cons xs at 0 one ∙ ap (λ (k : ℕ). get_or xs at 0 ∷ drop k xs) (sym (add-one at)) ∙ ap (λ (ys : List ℕ). get_or xs at 0 ∷ ys) (drop-cons xs (at + 1) 0 two))

pub two_at : (xs : List ℕ) (at : ℕ) → at + 2 ≤ length xs → (get_or xs at 0 - 48) * 10 + (get_or xs (at + 1) 0 - 48) ≡ number (take 2 (drop at xs))
two_at xs at room = sym (ap number (take-two xs at room) ∙ number-two (get_or xs at 0) (get_or xs (at + 1) 0))

take-four : (xs : List ℕ) (at : ℕ) → at + 4 ≤ length xs → take 4 (drop at xs) ≡ get_or xs at 0 ∷ get_or xs (at + 1) 0 ∷ get_or xs (at + 2) 0 ∷ get_or xs (at + 2 + 1) 0 ∷ []
take-four xs at room =
    let one : at < length xs = omega arith in
    let two : at + 1 < length xs = omega arith in
    let three : at + 2 < length xs = omega arith in
    let four : at + 2 + 1 < length xs = omega arith in
    let next : suc (at + 1) ≡ at + 2 = omega arith in
    ap (take 4) (drop-cons xs at 0 one ∙ ap (λ (k : ℕ). get_or xs at 0 ∷ drop k xs) (sym (add-one at))
    ∙ ap (λ (ys : List ℕ). get_or xs at 0 ∷ ys) (drop-cons xs (at + 1) 0 two ∙ ap (λ (k : ℕ). get_or xs (at + 1) 0 ∷ drop k xs) next
    ∙ ap (λ (ys : List ℕ). get_or xs (at + 1) 0 ∷ ys) (drop-cons xs (at + 2) 0 three ∙ ap (λ (k : ℕ). get_or xs (at + 2) 0 ∷ drop k xs) (sym (add-one (at + 2)))
    ∙ ap (λ (ys : List ℕ). get_or xs (at + 2) 0 ∷ ys) (drop-cons xs (at + 2 + 1) 0 four))))

pub four_at : (xs : List ℕ) (at : ℕ) → at + 4 ≤ length xs → number (take 2 (drop at xs)) * 100 + number (take 2 (drop (at + 2) xs)) ≡ number (take 4 (drop at xs))
four_at xs at room =
    let first : at + 2 ≤ length xs = omega arith in
    let second : at + 2 + 2 ≤ length xs = omega arith in
    sym (ap number (take-four xs at room) ∙ number-four (get_or xs at 0) (get_or xs (at + 1) 0) (get_or xs (at + 2) 0) (get_or xs (at + 2 + 1) 0)
    ∙ ap (λ (n : ℕ). n * 100 + number (get_or xs (at + 2) 0 ∷ get_or xs (at + 2 + 1) 0 ∷ [])) (ap number (sym (take-two xs at first)))
    ∙ ap (λ (n : ℕ). number (take 2 (drop at xs)) * 100 + n) (ap number (sym (take-two xs (at + 2) second))))
