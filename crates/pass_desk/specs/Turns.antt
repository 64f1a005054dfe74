-- What each turn at a book comes to, beside the step that its call does (our own).
use Rattle.std.specs.Prelude.{◌≡◌}
use Rattle.book_model.specs.State.{State}
use Rattle.book_model.specs.Sound.{IsSound}

-- the state was sound, and is
abbrev pub AreSound : State → State → Type 0
AreSound s t = IsSound s × IsSound t

-- and no caller number was given
pub record IsStep (s t : State) : Type 0 where
  pub sound : AreSound s t
  pub callers : t.callers ≡ s.callers
