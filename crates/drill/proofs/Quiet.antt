-- Steps that import nothing.
use Rattle.std.proofs.Common.{◌≡◌, ℕ, ◌+◌, List, [], ◌∷◌, ap, ◌∙◌}
use Rattle.std.specs.Prelude.{Option, Some, None}
use Rattle.history.specs.Entries.{History, imports}
use Rattle.book.proofs.Keeping.{imports-publish}
use Rattle.book_model.specs.State.{Kind, Plan, Piece, Assemble, State}
use Rattle.book_model.specs.Jobs.{JobName, Outcome}
use Rattle.book_model.specs.Steps.{GoesOn, Publishes}
use Rattle.schedule.specs.declared.step.Step.{Step}
use Rattle.schedule.specs.declared.step.Step.TheVariants.{Enrol, Pull, Work}
use Rattle.schedule.specs.declared.step.Answer.{Answer}
use Rattle.schedule.specs.declared.step.Answer.TheVariants.{Caller, Got, Reached, Out, Going, Published, Refused}
use Rattle.schedule.specs.declared.step.PlayFault.TheVariants.{NoCaller, HasJob, NoJob, CallersSpent}
use Rattle.schedule.specs.Machine.{Machine, idle, EndsFrom, DoesEnrol, DoesPull, DoesWork, Does, Plays, IsPlayed}

abbrev pub Same : State → State → Type 0
Same s t = imports t.history ≡ imports s.history

-- a machine whose book is this one
same-book : (m t : Machine) → t ≡ m → Same m.book t.book
same-book m t e = ap (λ (x : Machine). imports x.book.history) e

enrol-same : (m : Machine) (a : Answer) (t : Machine) → DoesEnrol m a t → Same m.book t.book
enrol-same m (Caller n) t d = ap (λ (x : State). imports x.history) d.0.2
enrol-same m (Refused CallersSpent) t d = ap (λ (x : State). imports x.history) d.1.0.1
enrol-same m a t d = absurd d

pull-same : (by : ℕ) (m : Machine) (a : Answer) (t : Machine) → DoesPull by m a t → Same m.book t.book
pull-same by m Got t d = ap (λ (x : State). imports x.history) d.1.2.1.left
pull-same by m (Reached n k) t d = ap (λ (x : State). imports x.history) d.1.1.0.3
pull-same by m (Out n) t d = ap (λ (x : State). imports x.history) d.1.1.0.3
pull-same by m (Refused NoCaller) t d = same-book m t d.1
pull-same by m (Refused HasJob) t d = same-book m t d.1.1
pull-same by m a t d = absurd d

goes_on-same : (k : Kind) (done : Outcome) (s t : State) → GoesOn k done s t → Same s t
goes_on-same Plan done s t g = ap (λ (x : State). imports x.history) g
goes_on-same Piece done s t g = ap (λ (x : State). imports x.history) g
goes_on-same Assemble done s t g = absurd g

publishes-same : (k : Kind) (by : ℕ) (done : Outcome) (s : State) (entry snapshot : ℕ) (t : State) → Publishes k by done s entry snapshot t → Same s t
publishes-same Plan by done s entry snapshot t p = absurd p
publishes-same Piece by done s entry snapshot t p = absurd p
publishes-same Assemble by done s entry snapshot t p = ap (λ (x : State). imports x.history) p.2 ∙ imports-publish s.history by done.job.upto

work-same : (by : ℕ) (m : Machine) (a : Answer) (t : Machine) → DoesWork by m a t → Same m.book t.book
work-same by m Going t d = goes_on-same d.1.0.job.kind d.1.0 m.book t.book d.1.2.1
work-same by m (Published n) t d = publishes-same d.1.0.job.kind by d.1.0 m.book d.1.1 n t.book d.1.3.1
work-same by m (Refused NoCaller) t d = same-book m t d.1
work-same by m (Refused NoJob) t d = same-book m t d.1.1
work-same by m a t d = absurd d

-- enrolments, and what callers do for a publication
abbrev pub IsQuiet : Step → Type 0
IsQuiet Enrol = Unit {0}
IsQuiet (Pull by) = Unit {0}
IsQuiet (Work by) = Unit {0}
IsQuiet other = ⊥

does-same : (step : Step) (m : Machine) (a : Answer) (t : Machine) → IsQuiet step → Does step m a t → Same m.book t.book
does-same Enrol m a t q d = enrol-same m a t d
does-same (Pull by) m a t q d = pull-same by m a t d
does-same (Work by) m a t q d = work-same by m a t d
does-same step m a t q d = absurd q

abbrev pub AreQuiet : List Step → Type 0
AreQuiet [] = Unit {0}
AreQuiet (step ∷ list) = IsQuiet step × AreQuiet list

plays-same : (list : List Step) (m : Machine) (answers : List Answer) (t : Machine) → AreQuiet list → Plays list m answers t → Same m.book t.book
plays-same [] m [] t q p = same-book m t p
plays-same [] m (a ∷ answers) t q p = absurd p
plays-same (step ∷ list) m [] t q p = absurd p
plays-same (step ∷ list) m (a ∷ answers) t q p = plays-same list p.0 answers t q.1 p.2 ∙ does-same step m a p.0 q.0 p.1

pub ends-same : (by : ℕ) (jobs : List (Option JobName)) (s t : State) → EndsFrom by jobs s t → t.history ≡ s.history
ends-same by [] s t e = ap (λ (x : State). x.history) e
ends-same by (None ∷ jobs) s t e = ends-same (by + 1) jobs s t e
ends-same by (Some job ∷ jobs) s t e = ends-same (by + 1) jobs e.0 t e.2 ∙ ap (λ (x : State). x.history) e.1.1

pub played-same : (list : List Step) (s : State) (answers : List Answer) (t : State) → AreQuiet list → IsPlayed list s answers t → Same s t
played-same list s answers t q p =
    ap (λ (h : History). imports h) (ends-same 0 p.0.jobs p.0.book t p.2) ∙ plays-same list (idle s) answers p.0 q p.1
