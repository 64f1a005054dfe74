-- Texts put behind one another.
use Rattle.std.proofs.Common.{◌≡◌, ℕ, List, ◌++◌, ap, ◌∙◌}
use Rattle.std.specs.Prelude.{Result, Ok, Err, OnOk, IsOk}
use Rattle.std.proofs.lemmas.List.{append_assoc}

pub on_ok : {A E : Type 0} (r : Result A E) (P : Type 0) → IsOk r → OnOk r P → P
on_ok (Ok x) P is p = p
on_ok (Err e) P is p = absurd cc

pub three : {A E : Type 0} (r : Result A E) (before x y z a b c : List ℕ) → x ≡ before ++ a → y ≡ x ++ b → OnOk r (z ≡ y ++ c) → OnOk r (z ≡ before ++ (a ++ b ++ c))
three (Ok u) before x y z a b c p q s = s ∙ ap (λ (l : List ℕ). l ++ c) (q ∙ ap (λ (l : List ℕ). l ++ b) p ∙ append_assoc before a b) ∙ append_assoc before (a ++ b) c
three (Err e) before x y z a b c p q s = tt

pub four : (x y z w a b c d : List ℕ) → x ≡ a → y ≡ x ++ b → z ≡ y ++ c → w ≡ z ++ d → w ≡ a ++ b ++ c ++ d
four x y z w a b c d p q r s = s ∙ ap (λ (l : List ℕ). l ++ d) (r ∙ ap (λ (l : List ℕ). l ++ c) (q ∙ ap (λ (l : List ℕ). l ++ b) p))
