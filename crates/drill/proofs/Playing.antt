-- Lists of one step.
use Rattle.std.proofs.Common.{◌≡◌, ℕ, ◌≤◌, List, [], ◌∷◌, ◌++◌, length, sym, ap, subst, ◌∙◌}
use Rattle.std.specs.Prelude.{None}
use Rattle.osv_prim.specs.declared.subject.Subject.{Subject}
use Rattle.history.specs.Entries.{History, imports, newest, snap}
use Rattle.book_model.specs.State.{State, published}
use Rattle.snapshot.specs.declared.page.Page as kept
use Rattle.snapshot.specs.Pages.{page, page_seen}
use Rattle.schedule.specs.declared.step.Step.{Step}
use Rattle.schedule.specs.declared.step.Step.TheVariants.{Pull, Look}
use Rattle.schedule.specs.declared.step.Answer.{Answer}
use Rattle.schedule.specs.declared.step.Answer.TheVariants.{Reached, Page}
use Rattle.schedule.specs.Machine.{Machine, IsPlayed}
use Rattle.drill.proofs.Quiet.{ends-same}

-- it has one answer, which is the last
pub one-answer : (step : Step) (s t : State) (answers front : List Answer) (a : Answer) → answers ≡ front ++ a ∷ [] → IsPlayed (step ∷ []) s answers t → IsPlayed (step ∷ []) s (a ∷ []) t
one-answer step s t answers front a e p = at front (subst (λ (xs : List Answer). IsPlayed (step ∷ []) s xs t) e p)
  where
    at : (front : List Answer) → IsPlayed (step ∷ []) s (front ++ a ∷ []) t → IsPlayed (step ∷ []) s (a ∷ []) t
    at [] p = p
    at (x ∷ []) p = absurd p.1.2
    at (x ∷ y ∷ front) p = absurd p.1.2

-- the history is that behind the step
history-behind : (step : Step) (s t : State) (a : Answer) (p : IsPlayed (step ∷ []) s (a ∷ []) t) → t.history ≡ p.1.0.book.history
history-behind step s t a p = ends-same 0 p.0.jobs p.0.book t p.2 ∙ ap (λ (x : Machine). x.book.history) p.1.2

pub reached : (s t : State) (by snapshot upto : ℕ) → IsPlayed (Pull by ∷ []) s (Reached snapshot upto ∷ []) t
    → (t.history ≡ s.history) × (snapshot ≡ newest t.history) × (length (imports t.history) ≤ published t.history)
reached s t by snapshot upto p =
    let d = p.1.1 in
    let e : t.history ≡ s.history = history-behind (Pull by) s t (Reached snapshot upto) p ∙ ap (λ (x : State). x.history) d.1.1.0.3 in
    (e, subst (λ (h : History). snapshot ≡ newest h) (sym e) d.1.1.0.1, subst (λ (h : History). length (imports h) ≤ published h) (sym e) d.1.1.0.0)

pub looked : (s t : State) (by : ℕ) (subject : Subject) (found : kept.Page) → IsPlayed (Look by subject None None ∷ []) s (Page found ∷ []) t
    → (t.history ≡ s.history) × (page_seen found ≡ page (snap s.history (newest s.history)) subject None s.settings.page)
looked s t by subject found p =
    let d = p.1.1 in (
      history-behind (Look by subject None None) s t (Page found) p ∙ ap (λ (x : Machine). x.book.history) d.1.3,
      d.1.2 ∙ ap (λ (n : ℕ). page (snap s.history n) subject None s.settings.page) d.1.1,
    )
