-- The places of a caller's entries.
use Rattle.std.proofs.Common.{◌≡◌, ℕ, suc, ◌+◌, Bool, true, false, cond, List, [], ◌∷◌, ◌++◌, length, get_or, refl, ap, subst, ◌∙◌, append_assoc, arith, length-append}
use Rattle.std.specs.Prelude.{nat_eq}
use Rattle.std.specs.List.{AllByRecursion}
use Rattle.std.proofs.Math.Seq.{get_or-append_seam}
use Rattle.history.specs.declared.past.Past.{Past}
use Rattle.history.specs.Entries.{History, caller, own_from, own, IsOwn}

all_step : (b : Bool) (me : ℕ) (h : History) (x : ℕ × Past) (xs : List (ℕ × Past)) → (b ≡ true → IsOwn me h x) → AllByRecursion (IsOwn me h) xs → AllByRecursion (IsOwn me h) (cond b (x ∷ xs) xs)
all_step true me h x xs this rest = (this refl, rest)
all_step false me h x xs this rest = rest

at_seam : (front : History) (e : Past) (h : History) (place : ℕ) → place ≡ length front → get_or (front ++ e ∷ h) place e ≡ e
at_seam front e h place is = ap (λ (k : ℕ). get_or (front ++ e ∷ h) k e) is ∙ get_or-append_seam front e h e

own_from-places : (place me : ℕ) (front h : History) → place ≡ length front → AllByRecursion (IsOwn me (front ++ h)) (own_from place me h)
own_from-places place me front [] is = tt
own_from-places place me front (e ∷ h) is =
    let long : length (front ++ e ∷ h) ≡ length front + suc (length h) = length-append front (e ∷ h) in
    let more : length (front ++ e ∷ []) ≡ length front + 1 = length-append front (e ∷ []) in
    let next : place + 1 ≡ length (front ++ e ∷ []) = omega (arith, is, more) in
    all_step (nat_eq (caller e) me) me (front ++ e ∷ h) (place, e) (own_from (place + 1) me h)
    (λ t. (omega (arith, is, long), at_seam front e h place is, t))
    (subst (λ (x : History). AllByRecursion (IsOwn me x) (own_from (place + 1) me h)) (append_assoc front (e ∷ []) h) (own_from-places (place + 1) me (front ++ e ∷ []) h next))

-- each stands at its place
pub own-places : (me : ℕ) (h : History) → AllByRecursion (IsOwn me h) (own me h)
own-places me h = own_from-places 0 me [] h refl
