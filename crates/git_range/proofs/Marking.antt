-- What marking some numbers leaves.
use Rattle.std.proofs.Common.{◌≡◌, ℕ, ◌⊎◌, inl, inr, Bool, true, false, ◌||◌, eqb, List, get_or, Contains, sym, ap, ◌∙◌}
use Rattle.std.specs.List.{list_any}
use Rattle.std.proofs.lemmas.Bool.{or_cases, or_right, eqb-true, eq-eqb}
use Rattle.std.proofs.lemmas.List.{get_or_default}
use Rattle.std.proofs.lemmas.List.Folds.{list_any_at, Any-from_list_any}

-- the marks of old, and of these numbers
abbrev pub IsMarked : List ℕ → List Bool → List Bool → Type 0
IsMarked ns old new = (n : ℕ) → get_or new n false ≡ (get_or old n false || list_any (λ p. eqb p n) ns)

module _ (ns : List ℕ) (old new : List Bool) (marked : IsMarked ns old new) where
  pub still_marked : (n : ℕ) → get_or old n false ≡ true → get_or new n false ≡ true
  still_marked n h = marked n ∙ ap (λ (b : Bool). b || list_any (λ p. eqb p n) ns) h

  pub now_marked : (n : ℕ) → Contains ns n → get_or new n false ≡ true
  now_marked n c =
      marked n ∙ (or_right (get_or old n false) (list_any (λ p. eqb p n) ns) (list_any_at (λ p. eqb p n) ns c.0 n c.1 (eq-eqb (get_or ns c.0 n) n c.2)))

  pub why_marked : (n : ℕ) → get_or new n false ≡ true → (get_or old n false ≡ true) ⊎ Contains ns n
  why_marked n h =
      elim (or_cases (get_or old n false) (list_any (λ p. eqb p n) ns) (sym (marked n) ∙ h)) [
        | inl before ↦ inl before
        | inr some ↦
            let a = Any-from_list_any (λ p. eqb p n) ns some in
            inr (a.0, a.2, get_or_default ns a.0 n a.1 a.2 ∙ a.3 ∙ eqb-true a.1 n a.4)
      ]
