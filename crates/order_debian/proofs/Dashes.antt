-- The last place of a byte, from the end of a text.
use Rattle.std.proofs.Common.{◌≡◌, ◌≢◌, ℕ, suc, ◌-◌, ◌<◌, ◌≤◌, ◌==◌, Bool, true, false, cond, List, [], ◌∷◌, ◌++◌, length, take, get_or, Option, Some, None, refl, ap, ◌∙◌, arith}
use Rattle.std.proofs.Math.Seq.{take-suc}
use Rattle.std.proofs.lemmas.Bool.Decides.{nat_tests}
use Rattle.std.proofs.lemmas.List.{length-take-le}
use Rattle.order_debian.specs.Reading.{last_or, last_place}

later_wins : (here : Bool) (test : Bool) (n : ℕ) (rest : Option ℕ) → last_or here (cond test (Some n) rest) ≡ cond test (Some (suc n)) (last_or here rest)
later_wins here true n rest = refl
later_wins here false n rest = refl

last_added : (b : ℕ) (xs : List ℕ) (x : ℕ) → last_place b (xs ++ x ∷ []) ≡ cond (x == b) (Some (length xs)) (last_place b xs)
unfolding last_place
last_added b [] x = refl
last_added b (c ∷ cs) x = ap (last_or (c == b)) (last_added b cs x) ∙ later_wins (c == b) (x == b) (length cs) (last_place b cs)

by_last : (b : ℕ) (xs : List ℕ) (e : ℕ) → 0 < e → e ≤ length xs → last_place b (take e xs) ≡ cond (get_or xs (e - 1) 0 == b) (Some (e - 1)) (last_place b (take (e - 1) xs))
by_last b xs e some within =
    let lt : e - 1 < length xs = omega arith in
    let next : e ≡ suc (e - 1) = omega arith in
    let long : length (take (e - 1) xs) ≡ e - 1 = length-take-le (e - 1) xs (omega arith) in
    ap (λ (n : ℕ). last_place b (take n xs)) next ∙ ap (last_place b) (take-suc xs (e - 1) 0 lt) ∙ last_added b (take (e - 1) xs) (get_or xs (e - 1) 0)
    ∙ ap (λ (n : ℕ). cond (get_or xs (e - 1) 0 == b) (Some n) (last_place b (take (e - 1) xs))) long

pub found : (b : ℕ) (xs : List ℕ) (e : ℕ) → 0 < e → e ≤ length xs → get_or xs (e - 1) 0 ≡ b → last_place b (take e xs) ≡ Some (e - 1)
found b xs e some within is =
    let yes : (get_or xs (e - 1) 0 == b) ≡ true = grind (arith, nat_tests) in
    by_last b xs e some within ∙ ap (λ (t : Bool). cond t (Some (e - 1)) (last_place b (take (e - 1) xs))) yes

pub not_there : (b : ℕ) (xs : List ℕ) (e : ℕ) → 0 < e → e ≤ length xs → get_or xs (e - 1) 0 ≢ b → last_place b (take e xs) ≡ last_place b (take (e - 1) xs)
not_there b xs e some within isnt =
    let no : (get_or xs (e - 1) 0 == b) ≡ false = grind (arith, nat_tests) in
    by_last b xs e some within ∙ ap (λ (t : Bool). cond t (Some (e - 1)) (last_place b (take (e - 1) xs))) no

pub none_left : (b : ℕ) (xs : List ℕ) (e : ℕ) → e ≡ 0 → last_place b (take e xs) ≡ None
unfolding last_place
none_left b xs e zero = rw zero refl
