-- Reading one after another, as a loop does.
use Rattle.std.proofs.Common.{◌≡◌, List, [], ◌∷◌, ◌++◌, Result, Ok, Err, refl, sym, ap, ◌∙◌, append_assoc}
use Rattle.std.proofs.lemmas.List.{append-nil}
use Rattle.osv_prim.specs.declared.stop.Stop.{Stop}
use Rattle.osv_prim.specs.declared.stop.Stop.TheVariants as stop
use Rattle.osv_prim.specs.Results.{◌>>=◌, each, onto, Fails}

after_one : {A F : Type 0} (front : List A) (y : A) (rest : Result (List A) F) → onto front (rest >>= λ ys. Ok (y ∷ ys)) ≡ onto (front ++ y ∷ []) rest
after_one front y (Ok ys) = ap (λ (xs : List _). Ok xs) (sym (append_assoc front (y ∷ []) ys))
after_one front y (Err e) = refl

-- the first was read
pub reads_on : {A B F : Type 0} (f : A → Result B F) (front : List B) (x : A) (xs : List A) (y : B) (total : Result (List B) F)
    → f x ≡ Ok y → onto front (each f (x ∷ xs)) ≡ total → onto (front ++ y ∷ []) (each f xs) ≡ total
reads_on f front x xs y total h so_far =
    sym (after_one front y (each f xs)) ∙ ap (λ (r : Result _ _). onto front (r >>= λ y. each f xs >>= λ ys. Ok (y ∷ ys))) (sym h) ∙ so_far

refused : {A B F : Type 0} (f : A → Result B F) (front : List B) (x : A) (xs : List A) (e : F) → f x ≡ Err e → onto front (each f (x ∷ xs)) ≡ Err e
refused f front x xs e h = rw h refl

-- the first was refused
pub stops : {A B F : Type 0} (f : A → Result B F) (front : List B) (x : A) (xs : List A) (d : Stop F) (total : Result (List B) F)
    → Fails d (f x) → onto front (each f (x ∷ xs)) ≡ total → Fails d total
stops f front x xs stop.Memory total h so_far = tt
stops f front x xs (stop.Refused e) total h so_far = sym so_far ∙ refused f front x xs e h

pub onto-none : {A F : Type 0} (read : Result (List A) F) → onto [] read ≡ read
onto-none (Ok xs) = refl
onto-none (Err e) = refl

-- all were read
pub ends : {A B F : Type 0} (f : A → Result B F) (front : List B) (xs : List A) (total : Result (List B) F)
    → xs ≡ [] → onto front (each f xs) ≡ total → total ≡ Ok front
ends f front [] total none so_far = sym so_far ∙ ap (λ (xs : List _). Ok xs) (append-nil front)
ends f front (x ∷ xs) total none so_far = absurd cc
