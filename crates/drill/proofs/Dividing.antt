-- Four parts of a list, one behind the other.
use Rattle.std.proofs.Common.{◌≡◌, ℕ, ◌+◌, ◌-◌, ◌≤◌, List, ◌++◌, length, take, drop, map, sym, ap, ◌∙◌, arith}
use Rattle.std.proofs.lemmas.List.{map-append, take_all}
use Rattle.std.proofs.Math.Seq.{take-add}

-- the front up to m, by the front up to n and what stands behind it
front : {X : Type 0} (xs : List X) (n m : ℕ) → n ≤ m → take n xs ++ take (m - n) (drop n xs) ≡ take m xs
front {X = X} xs n m le =
    let e : n + (m - n) ≡ m = omega (arith, le) in
    sym (take-add n (m - n) xs) ∙ ap (λ (k : ℕ). take k xs) e

pub parts : {X : Type 0} (xs : List X) (a b c : ℕ) → a ≤ b → b ≤ c → c ≤ length xs
    → take (a - 0) (drop 0 xs) ++ take (b - a) (drop a xs) ++ take (c - b) (drop b xs) ++ take (length xs - c) (drop c xs) ≡ xs
parts {X = X} xs a b c ab bc cn =
    let s = take (b - a) (drop a xs) in
    let t = take (c - b) (drop b xs) in
    let u = take (length xs - c) (drop c xs) in
    ap (λ (ys : List X). ys ++ s ++ t ++ u) (front xs 0 a (omega arith))
    ∙ ap (λ (ys : List X). ys ++ t ++ u) (front xs a b ab)
    ∙ ap (λ (ys : List X). ys ++ u) (front xs b c bc) ∙ front xs c (length xs) cn ∙ take_all (length xs) xs (omega arith)

-- a list is made of its parts
pub made-of : {X : Type 0} (xs p q r s : List X) (a b c : ℕ) → a ≤ b → b ≤ c → c ≤ length xs → p ≡ take (a - 0) (drop 0 xs) → q ≡ take (b - a) (drop a xs) → r ≡ take (c - b) (drop b xs) → s ≡ take (length xs - c) (drop c xs) → p ++ q ++ r ++ s ≡ xs
made-of {X = X} xs p q r s a b c ab bc cn ep eq er es =
    let t = take (a - 0) (drop 0 xs) in
    let u = take (b - a) (drop a xs) in
    let v = take (c - b) (drop b xs) in
    ap (λ (l : List X). l ++ q ++ r ++ s) ep ∙ ap (λ (l : List X). t ++ l ++ r ++ s) eq ∙ ap (λ (l : List X). t ++ u ++ l ++ s) er ∙ ap (λ (l : List X). t ++ u ++ v ++ l) es
    ∙ parts xs a b c ab bc cn

-- and so are its values
pub values-made-of : {X Y : Type 0} (f : X → Y) (xs p q r s : List X) → p ++ q ++ r ++ s ≡ xs → map f p ++ map f q ++ map f r ++ map f s ≡ map f xs
values-made-of {X = X} {Y = Y} f xs p q r s whole =
    ap (λ (ys : List Y). ys ++ map f r ++ map f s) (sym (map-append f p q))
    ∙ ap (λ (ys : List Y). ys ++ map f s) (sym (map-append f (p ++ q) r))
    ∙ sym (map-append f (p ++ q ++ r) s) ∙ ap (λ (ys : List X). map f ys) whole
