-- What holds of the state of each book (our own).
use Rattle.std.specs.Prelude.{◌≡◌, ℕ, ◌^◌, ◌<◌, ◌≤◌, false, List, length, IfSome, All}
use Rattle.std.specs.List.{list_all}
use Rattle.turn_lock.specs.History.{GrownBy, GivesAtMostOne}
use Rattle.history.specs.declared.past.Past.TheVariants.{Publish}
use Rattle.history.specs.Entries.{History, caller, weight}
use Rattle.history.specs.Legality.{marks, MayFollow, IsLegal}
use Rattle.book_model.specs.State.{Kind, Plan, Piece, Assemble, Cell, Free, OutTo, Done, Build, State, is_done}

-- a plan and an assembly are one job
abbrev pub IsOneJob : Kind → List Cell → Type 0
IsOneJob Plan cells = length cells ≡ 1
IsOneJob Piece cells = Unit {0}
IsOneJob Assemble cells = length cells ≡ 1

-- whoever has the job has a number
abbrev pub IsHeldBelow : ℕ → Cell → Type 0
IsHeldBelow callers Free = Unit {0}
IsHeldBelow callers (OutTo by) = by < callers
IsHeldBelow callers Done = Unit {0}

-- A build that is open: its publication may come next, and some job of its phase isn't done.
pub record IsOpen (h : History) (callers : ℕ) (b : Build) : Type 0 where
  pub may_come : MayFollow (marks h) (Publish 0 b.upto)
  pub undone : list_all is_done b.cells ≡ false
  pub one : IsOneJob b.phase b.cells
  pub held : All (IsHeldBelow callers) b.cells

pub record IsSound (s : State) : Type 0 where
  pub legal : IsLegal s.history
  pub within : weight s.history ≤ s.settings.weight
  -- every entry is by a number that was given
  pub given : All (λ e. caller e < s.callers) s.history
  pub callers : s.callers ≤ 2 ^ 63
  pub build : IfSome s.build (IsOpen s.history s.callers)

-- What each step leaves: entries are only added, at the end and by the caller; at most one number is given; and the settings stay.
pub record Keeps (by : ℕ) (old new : State) : Type 0 where
  pub grown : GrownBy caller by old.history new.history
  pub counts : GivesAtMostOne old.callers new.callers
  pub settings : new.settings ≡ old.settings
