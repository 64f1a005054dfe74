-- Locks, passes between two turns, and what one turn does (our own).
use Rattle.std.specs.Prelude.{◌≡◌, ℕ, ◌+◌, ◌≤◌, List, Option, Some, None, ◌==◌, nat_lt, cond}
use mathlib.Core.List.{IsPrefix}
use Rattle.atomic_table.specs.Seated.{TableId}
use Rattle.turn_lock.specs.History.{GrownBy, GivesAtMostOne, entries_by, saturating_next}
use Rattle.turn_lock.specs.declared.note.Note.{Note}
use Rattle.turn_lock.specs.declared.note.Last.{Last}

-- what the lock reads of a value B: its history, whose an entry is, how many caller numbers were given, and what no call changes
pub record Meaning (B E F : Type 0) : Type 0 where
  pub entries : B → List E
  pub owner : E → ℕ
  pub caller_count : B → ℕ
  pub fixed : B → F

-- which lock: its table, and the fixed part of the value that it started with
pub record LockId (F : Type 0) : Type 0 where
  pub table : TableId
  pub fixed : Option F

-- a pass between two turns: its lock, the history that it has seen, its caller number, and its last turn
pub record PassState (E F : Type 0) : Type 0 where
  pub lock : LockId F
  pub seen : List E
  pub number : Option ℕ
  pub last : Last

-- how many caller numbers a pass with this number knows to be given, where it acts as `by`
abbrev pub known_callers : Option ℕ → ℕ → ℕ
known_callers None by = 0
known_callers (Some n) by = cond (n == by) (by + 1) 0

-- the number of a pass after a turn that found `before` numbers given and left `after`: the new one, if one was given
abbrev pub number_after : Option ℕ → ℕ → ℕ → Option ℕ
number_after old before after = cond (nat_lt before after) (Some before) old

-- One turn: it found a value at which all that the pass had seen still stood, the call did to it what it does, and the pass has seen what was left
pub record IsTurn {B E F : Type 0} (m : Meaning B E F) (noted : B → Note) (does : B → B → Type 0) (by : ℕ) (old new : PassState E F) : Type 0 where
  pub found : B
  pub left : B
  pub acts : does found left
  pub seen : IsPrefix old.seen (m.entries found)
  pub fixed : old.lock.fixed ≡ Some (m.fixed found)
  -- no entry by the pass's number came from elsewhere
  pub own : (k : ℕ) → old.number ≡ Some k → entries_by m.owner k (m.entries found) ≡ entries_by m.owner k old.seen
  pub counted : known_callers old.number by ≤ m.caller_count found
  pub grown : GrownBy m.owner by (m.entries found) (m.entries left)
  pub counts : GivesAtMostOne (m.caller_count found) (m.caller_count left)
  pub same : m.fixed left ≡ m.fixed found
  pub pass : new ≡ record { lock = old.lock; seen = m.entries left; number = number_after old.number (m.caller_count found) (m.caller_count left); last = record { turned = saturating_next old.last.turned; found = noted found; left = noted left } }
