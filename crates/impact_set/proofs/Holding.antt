-- Last affected rows are unmarked one after another, and those that were marked are listed.
use Rattle.std.proofs.Common.{◌≡◌, ℕ, ◌+◌, ◌<◌, inl, inr, Bool, true, false, not, ◌&&◌, ◌||◌, cond, eqb, List, [], ◌∷◌, ◌++◌, length, take, get_or, refl, sym, ap, subst, ◌∙◌}
use Rattle.std.proofs.lemmas.Bool.{cases_eq, eq-eqb, ne_eqb, eqb-true, true≢false}
use Rattle.std.proofs.lemmas.List.Folds.{list_any_more, list_any-append}
use Rattle.std.proofs.lemmas.List.{append-nil}
use Rattle.impact_set.specs.Passing.{has_number}

turned : (a b : ℕ) → eqb a b ≡ eqb b a
turned a b =
    elim (cases_eq a b) [
      | inl same ↦ eq-eqb a b same ∙ sym (eq-eqb b a (sym same))
      | inr other ↦ ne_eqb a b other ∙ sym (ne_eqb b a (λ e. other (sym e)))
    ]

one-less : (o a e : Bool) → ((o && not a) && not e) ≡ (o && not (a || e))
one-less true true e = refl
one-less true false e = refl
one-less false a e = refl

or_no : (a : Bool) → (a || false) ≡ a
or_no true = refl
or_no false = refl

one-more : (o a e : Bool) → (e ≡ true → o ≡ true) → ((o && a) || e) ≡ (o && (a || e))
one-more true a e h = refl
one-more false a true h = sym (h refl)
one-more false a false h = refl

no-more : (o a e : Bool) → (e ≡ true → (o && not a) ≡ false) → (o && a) ≡ (o && (a || e))
no-more true true e h = refl
no-more true false true h = absurd (true≢false (h refl))
no-more true false false h = refl
no-more false a e h = refl

true-left : (o a : Bool) → (o && not a) ≡ true → o ≡ true
true-left true a h = refl
true-left false a h = h

abbrev pub AreUnmarked : List Bool → List ℕ → List Bool → Type 0
AreUnmarked old last marks = (n : ℕ) → get_or marks n false ≡ (get_or old n false && not (has_number last n))

abbrev pub AreListed : List Bool → List ℕ → List ℕ → Type 0
AreListed old last held = (n : ℕ) → has_number held n ≡ (get_or old n false && has_number last n)

module _ (old : List Bool) (last : List ℕ) (i : ℕ) (lt : i < length last) (marks : List Bool) (unmarked : AreUnmarked old (take i last) marks) where
  abbrev row : ℕ
  row = get_or last i 0

  more : (n : ℕ) → has_number (take (i + 1) last) n ≡ (has_number (take i last) n || eqb row n)
  more n = list_any_more (λ x. eqb x n) last i 0 lt

  pub unmarked-more : (new : List Bool) → ((n : ℕ) → get_or new n false ≡ (get_or marks n false && not (eqb n row))) → AreUnmarked old (take (i + 1) last) new
  unmarked-more new each n =
      each n ∙ ap (λ (b : Bool). b && not (eqb n row)) (unmarked n) ∙ ap (λ (b : Bool). (get_or old n false && not (has_number (take i last) n)) && not b) (turned n row)
      ∙ one-less (get_or old n false) (has_number (take i last) n) (eqb row n) ∙ ap (λ (b : Bool). get_or old n false && not b) (sym (more n))

  pub listed-more : (held : List ℕ) → AreListed old (take i last) held → get_or marks row false ≡ true → AreListed old (take (i + 1) last) (held ++ row ∷ [])
  listed-more held listed was n =
      list_any-append (λ x. eqb x n) held (row ∷ []) ∙ ap (λ (b : Bool). has_number held n || b) (or_no (eqb row n)) ∙ ap (λ (b : Bool). b || eqb row n) (listed n)
      ∙ one-more (get_or old n false) (has_number (take i last) n) (eqb row n)
      (λ h. let same = eqb-true row n h in subst (λ (k : ℕ). get_or old k false ≡ true) same (true-left (get_or old row false) (has_number (take i last) row) (sym (unmarked row) ∙ was)))
      ∙ ap (λ (b : Bool). get_or old n false && b) (sym (more n))

  pub listed-over : (held : List ℕ) → AreListed old (take i last) held → get_or marks row false ≡ false → AreListed old (take (i + 1) last) held
  listed-over held listed was n =
      listed n
      ∙ no-more (get_or old n false) (has_number (take i last) n) (eqb row n)
      (λ h. let same = eqb-true row n h in subst (λ (k : ℕ). (get_or old k false && not (has_number (take i last) k)) ≡ false) same (sym (unmarked row) ∙ was))
      ∙ ap (λ (b : Bool). get_or old n false && b) (sym (more n))

  -- as the code pushes the row, where it was marked
  pub listed-next : (held : List ℕ) → AreListed old (take i last) held → (was : Bool) → was ≡ get_or marks row false → AreListed old (take (i + 1) last) (held ++ cond was (row ∷ []) [])
  listed-next held listed true was = listed-more held listed (sym was)
  listed-next held listed false was = subst (AreListed old (take (i + 1) last)) (sym (append-nil held)) (listed-over held listed (sym was))

and_true : (a : Bool) → (a && true) ≡ a
and_true true = refl
and_true false = refl

and_no : (a : Bool) → (a && false) ≡ false
and_no true = refl
and_no false = refl

pub unmarked-none : (old : List Bool) → AreUnmarked old [] old
unmarked-none old n = sym (and_true (get_or old n false))

pub listed-none : (old : List Bool) → AreListed old [] []
listed-none old n = sym (and_no (get_or old n false))
