-- Pages of a snapshot that was found.
use Rattle.std.proofs.Common.{◌≡◌, ℕ, List, [], ◌∷◌, ◌++◌, sym, ap, subst, ◌∙◌}
use Rattle.std.specs.Prelude.{Option}
use Rattle.osv_prim.specs.declared.subject.Subject.{Subject}
use Rattle.history.specs.declared.past.Past.{Past}
use Rattle.history.specs.Entries.{snap}
use Rattle.book_model.specs.declared.answers.Kept.{Kept}
use Rattle.book_model.specs.State.{State}
use Rattle.book_model.specs.Steps.{Finds, FindsEach}
use Rattle.snapshot.specs.declared.snapshot.Snapshot.{Snapshot}
use Rattle.snapshot.specs.declared.page.Page as kept
use Rattle.snapshot.specs.Snapshots.{StandsFor}
use Rattle.snapshot.specs.Pages.{page, page_seen}

-- the last that was found, where one number was looked for
pub last-found : {S : Type 0} (stands_for : S → List Past → Type 0) (s : State) (number : ℕ) (found front : List (Kept S)) (last : Kept S) → found ≡ front ++ last ∷ [] → FindsEach stands_for s (number ∷ []) found → Finds stands_for s number last
last-found {S = S} stands_for s number found front last e f = step front (subst (λ (xs : List (Kept S)). FindsEach stands_for s (number ∷ []) xs) e f)
  where
    step : (front : List (Kept S)) → FindsEach stands_for s (number ∷ []) (front ++ last ∷ []) → Finds stands_for s number last
    step [] f = f.0
    step (x ∷ []) f = absurd f.1
    step (x ∷ y ∷ front) f = absurd f.1

-- the page of the imports that a snapshot stands for
pub paged : (s : State) (number size : ℕ) (snapshot asked : Snapshot) (subject : Subject) (after : Option (List ℕ)) (found : kept.Page) → asked ≡ snapshot → StandsFor snapshot (snap s.history number) → size ≡ s.settings.page
    → ((p : List Past) → StandsFor asked p → page_seen found ≡ page p subject after size) → page_seen found ≡ page (snap s.history number) subject after s.settings.page
paged s number size snapshot asked subject after found same stands is answer =
    answer (snap s.history number) (subst (λ (x : Snapshot). StandsFor x (snap s.history number)) (sym same) stands) ∙ ap (λ (n : ℕ). page (snap s.history number) subject after n) is
