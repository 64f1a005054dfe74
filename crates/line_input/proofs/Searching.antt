-- A search for a line end behind bytes that have none.
use Rattle.std.proofs.Common.{◌≡◌, ℕ, ◌+◌, ◌-◌, ◌<◌, ◌≤◌, true, List, length, take, drop, get_or, sym, ap, subst, ◌∙◌, arith, inl, inr}
use Rattle.std.specs.Prelude.{◌==◌}
use Rattle.std.proofs.lemmas.Bool.{cases_lt}
use Rattle.std.proofs.lemmas.List.{get_or-drop, length-drop}
use Rattle.edge_io.proofs.Known.{rest_from}
use Rattle.line_input.specs.Lines.{NoneBefore}

module _ (text : List ℕ) (s : ℕ) (none : NoneBefore text s) where
  -- nothing before, and nothing among so many behind
  joined : (n : ℕ) → NoneBefore (drop s text) n → NoneBefore text (s + n)
  joined n before = λ k low below is.
      elim (cases_lt k s) [
        | inl lt ↦ none k low lt is
        | inr le ↦
            let same : s + (k - s) ≡ k = omega arith in
            before (k - s) (omega arith) (omega arith)
            (subst (λ (x : ℕ). (x == 10) ≡ true) (sym (get_or-drop s text (k - s) 0 ∙ ap (λ (i : ℕ). get_or text i 0) same)) is)
      ]

  pub at_place : (at : ℕ) → s ≤ length text → at < length (take (length text - s) (drop s text)) → NoneBefore (take (length text - s) (drop s text)) at
      → (get_or (take (length text - s) (drop s text)) at 0 == 10) ≡ true → (s + at < length text) × NoneBefore text (s + at) × ((get_or text (s + at) 0 == 10) ≡ true)
  at_place at within high before is =
      let e = rest_from s text in
      let low : at < length (drop s text) = subst (λ (xs : List ℕ). at < length xs) e high in (
        omega (arith, low, length-drop s text),
        joined at (subst (λ (xs : List ℕ). NoneBefore xs at) e before),
        subst (λ (x : ℕ). (x == 10) ≡ true) (get_or-drop s text at 0) (subst (λ (xs : List ℕ). (get_or xs at 0 == 10) ≡ true) e is),
      )

  pub nowhere : s ≤ length text → NoneBefore (take (length text - s) (drop s text)) (length (take (length text - s) (drop s text))) → NoneBefore text (length text)
  nowhere within before =
      let e = rest_from s text in
      let all : s + length (drop s text) ≡ length text = omega (arith, length-drop s text, within) in
      subst (λ (n : ℕ). NoneBefore text n) all (joined (length (drop s text)) (subst (λ (xs : List ℕ). NoneBefore xs (length xs)) e before))
