-- What queries answer, by the history alone.
use Rattle.std.proofs.Common.{◌≡◌, ℕ, ◌<◌, List, sym, ap, subst, ◌∙◌, arith}
use Rattle.std.specs.Prelude.{Option, Some, None}
use Rattle.osv_prim.specs.declared.subject.Subject.{Subject}
use Rattle.settings.specs.declared.Settings.{Settings}
use Rattle.history.specs.Entries.{History, newest, snap, IsAhead, IsKept, IsGone, oldest_kept}
use Rattle.snapshot.specs.declared.page.Page as kept
use Rattle.snapshot.specs.Pages.{page, page_seen}
use Rattle.schedule.specs.declared.step.Answer.{Answer}
use Rattle.schedule.specs.declared.step.Answer.TheVariants.{Page, Gone, Ahead, Refused}
use Rattle.schedule.specs.declared.step.PlayFault.TheVariants.{NoCaller}
use Rattle.schedule.specs.Machine.{Machine, DoesLook}
use Rattle.schedule.specs.Alike.{IsSameAnswer}

-- what a query answers a caller that has a number
data Looked (settings : Settings) (h : History) (subject : Subject) (after : Option (List ℕ)) : Option ℕ → Answer → Type 0 where
  of_newest : {p : kept.Page} → page_seen p ≡ page (snap h (newest h)) subject after settings.page → Looked settings h subject after None (Page p)
  of_named : {k : ℕ} {p : kept.Page} → IsKept settings.keep h k → page_seen p ≡ page (snap h k) subject after settings.page → Looked settings h subject after (Some k) (Page p)
  gone : {k oldest : ℕ} → IsGone settings.keep h k → oldest ≡ oldest_kept settings.keep h → Looked settings h subject after (Some k) (Gone oldest)
  ahead : {k now : ℕ} → IsAhead h k → now ≡ newest h → Looked settings h subject after (Some k) (Ahead now)

looked : (by : ℕ) (subject : Subject) (named : Option ℕ) (after : Option (List ℕ)) (m : Machine) (a : Answer) (t : Machine) → by < m.book.callers → DoesLook by subject named after m a t
    → Looked m.book.settings m.book.history subject after named a
looked by subject None after m (Page p) t lt d = of_newest (d.1.2 ∙ ap (λ (n : ℕ). page (snap m.book.history n) subject after m.book.settings.page) d.1.1)
looked by subject (Some k) after m (Page p) t lt d = of_named d.1.1.1 (d.1.2 ∙ ap (λ (n : ℕ). page (snap m.book.history n) subject after m.book.settings.page) d.1.1.0)
looked by subject (Some k) after m (Gone oldest) t lt d = gone d.1.0 d.1.1
looked by subject (Some k) after m (Ahead now) t lt d = ahead d.1.0 d.1.1
looked by subject named after m (Refused NoCaller) t lt d = absurd (omega (arith, lt, d.0))
looked by subject named after m a t lt d = absurd d

alike : (settings : Settings) (h : History) (subject : Subject) (after : Option (List ℕ)) (named : Option ℕ) (a b : Answer) → Looked settings h subject after named a → Looked settings h subject after named b → IsSameAnswer a b
alike settings h subject after named a b (of_newest e) (of_newest f) = e ∙ sym f
alike settings h subject after named a b (of_named kept e) (of_named also f) = e ∙ sym f
alike settings h subject after named a b (of_named kept e) (gone g f) = absurd (omega (arith, kept.1, g.1))
alike settings h subject after named a b (of_named kept e) (ahead g f) = absurd (omega (arith, kept.0, g))
alike settings h subject after named a b (gone g e) (of_named also f) = absurd (omega (arith, also.1, g.1))
alike settings h subject after named a b (gone g e) (gone also f) = e ∙ sym f
alike settings h subject after named a b (gone g e) (ahead also f) = absurd (omega (arith, g.0, also))
alike settings h subject after named a b (ahead g e) (of_named also f) = absurd (omega (arith, also.0, g))
alike settings h subject after named a b (ahead g e) (gone also f) = absurd (omega (arith, also.0, g))
alike settings h subject after named a b (ahead g e) (ahead also f) = e ∙ sym f

pub same-answers : (m n : Machine) → m.book.settings ≡ n.book.settings → m.book.history ≡ n.book.history → (by me : ℕ) (subject : Subject) (named : Option ℕ) (after : Option (List ℕ)) (a b : Answer) (t v : Machine)
    → by < m.book.callers → me < n.book.callers → DoesLook by subject named after m a t → DoesLook me subject named after n b v → IsSameAnswer a b
same-answers m n set same by me subject named after a b t v lt below d e =
    alike n.book.settings n.book.history subject after named a b
    (subst (λ (x : Settings). Looked x n.book.history subject after named a) set (subst (λ (x : History). Looked m.book.settings x subject after named a) same (looked by subject named after m a t lt d)))
    (looked me subject named after n b v below e)
