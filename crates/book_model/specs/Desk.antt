-- A caller's way to a book: what contracts know of it, and what each call comes to (our own).
use Rattle.std.specs.Prelude.{◌≡◌, ℕ, ◌+◌, ◌<◌, ◌≤◌, min, [], ◌∷◌, ◌++◌, length, Option, Some, None, Result, Ok, Err, IfSome}
use mathlib.Core.List.{IsPrefix}
use Rattle.osv_prim.specs.declared.memory.Memory.{Memory}
use Rattle.settings.specs.declared.Settings.{Settings}
use Rattle.settings.specs.declared.TheConstants.{MAX_WEIGHT}
use Rattle.turn_lock.specs.declared.note.Note.{Note}
use Rattle.turn_lock.specs.declared.note.Last.{Last}
use Rattle.turn_lock.specs.History.{entries_by, saturating_next}
use Rattle.turn_lock.specs.Turn.{LockId}
use Rattle.history.specs.declared.past.Past.{Past}
use Rattle.history.specs.Entries.{History, caller, weight, own}
use Rattle.history.specs.Legality.{IsLegal}
use Rattle.book_model.specs.declared.answers.GrowFault.{GrowFault}
use Rattle.book_model.specs.declared.answers.GrowFault.TheVariants as grow_faults
use Rattle.book_model.specs.declared.answers.Pulled.{Pulled}
use Rattle.book_model.specs.declared.answers.Pulled.TheVariants as pulled
use Rattle.book_model.specs.State.{Build, State}
use Rattle.book_model.specs.Sound.{IsSound}

-- a caller of a book
pub record Caller : Type 0 where
  -- which lock its book lies under, if it shares one
  pub lock : Option (LockId Settings)
  -- those of the book
  pub settings : Settings
  -- the entries of the history that the last call left
  pub front : History
  -- the build of the book, where nobody else acts on that
  pub alone : Option (Option Build)
  -- its number
  pub me : ℕ
  -- how many calls answered that all work is out, or that a repository moved
  pub busy : ℕ
  -- how many jobs it handed in
  pub turns : ℕ
  -- the sum of all numbers of jobs that it was told to be out
  pub outs : ℕ
  -- its calls, and the notes that the last one found and left
  pub last : Last

-- What holds of each caller: the entries that it knows are a legal history within the limit, which is at most the greatest that a book takes where nobody else acts on the book.
pub record IsKnown (c : Caller) : Type 0 where
  pub legal : IsLegal c.front
  pub within : weight c.front ≤ c.settings.weight
  pub limit : IfSome c.alone (λ build. c.settings.weight ≤ MAX_WEIGHT)

-- the call after a last one that found and left these notes
abbrev pub turned : Last → Note → Note → Last
turned last found left = record { turned = saturating_next last.turned; found = found; left = left }

-- the build of a book on which nobody else acts, after a call that left this one
abbrev pub alone_after : Option (Option Build) → Option Build → Option (Option Build)
alone_after None build = None
alone_after (Some before) build = Some build

-- A call is one step of the book, at a history that begins with what the caller knew and has no further entry by it.
pub record IsEvent (does : State → State → Type 0) (old new : Caller) : Type 0 where
  pub found : State
  pub left : State
  pub acts : does found left
  pub same_settings : found.settings ≡ old.settings
  pub given : old.me < found.callers
  pub begins : IsPrefix old.front found.history
  pub own : entries_by caller old.me found.history ≡ entries_by caller old.me old.front
  -- a book on which nobody else acts was left by the last call
  pub untouched : IfSome old.alone (λ build. (found.build ≡ build) × (found.history ≡ old.front))
  pub sound_found : IsSound found
  pub sound_left : IsSound left
  pub lock : new.lock ≡ old.lock
  pub settings : new.settings ≡ old.settings
  pub front : new.front ≡ left.history
  pub alone : new.alone ≡ alone_after old.alone left.build
  pub me : new.me ≡ old.me
  pub last : new.last ≡ turned old.last found.note left.note

-- ---- counts

-- the sum, at most 2^64 - 1
abbrev pub saturating_sum : ℕ → ℕ → ℕ
saturating_sum n m = min (n + m) 18446744073709551615

pub record CountsStay (old new : Caller) : Type 0 where
  pub busy : new.busy ≡ old.busy
  pub turns : new.turns ≡ old.turns
  pub outs : new.outs ≡ old.outs

-- a job was handed in
pub record CountsTurn (old new : Caller) : Type 0 where
  pub busy : new.busy ≡ old.busy
  pub turns : new.turns ≡ saturating_next old.turns
  pub outs : new.outs ≡ old.outs

-- so many jobs were out
pub record CountsOut (out : ℕ) (old new : Caller) : Type 0 where
  pub busy : new.busy ≡ saturating_next old.busy
  pub turns : new.turns ≡ old.turns
  pub outs : new.outs ≡ saturating_sum old.outs out

-- the repository had moved
pub record CountsMoved (old new : Caller) : Type 0 where
  pub busy : new.busy ≡ saturating_next old.busy
  pub turns : new.turns ≡ old.turns
  pub outs : new.outs ≡ old.outs

abbrev pub CountsPull : {J : Type 0} → Result (Pulled J) Memory → Caller → Caller → Type 0
CountsPull (Ok (pulled.Reached snapshot upto)) old new = CountsStay old new
CountsPull (Ok (pulled.Job job)) old new = CountsStay old new
CountsPull (Ok (pulled.Out out)) old new = CountsOut out old new
CountsPull (Err memory) old new = CountsStay old new

abbrev pub CountsGrow : Result ℕ GrowFault → Caller → Caller → Type 0
CountsGrow (Ok place) old new = CountsStay old new
CountsGrow (Err (grow_faults.RepoMoved seen now)) old new = CountsMoved old new
CountsGrow (Err (grow_faults.JournalFull used limit)) old new = CountsStay old new
CountsGrow (Err grow_faults.Memory) old new = CountsStay old new

-- ---- what calls come to

-- the entry stands at the end of the history, at this place, and is all that came to the caller's own
pub record AddsOwn (e : Past) (place : ℕ) (old new : Caller) : Type 0 where
  pub before : History
  pub begins : IsPrefix old.front before
  pub ends : new.front ≡ before ++ e ∷ []
  pub place_is : place ≡ length before
  pub mine : own old.me new.front ≡ own old.me old.front ++ (place, e) ∷ []

-- nothing came to the caller's own
pub record AddsNone (old new : Caller) : Type 0 where
  pub begins : IsPrefix old.front new.front
  pub mine : own old.me new.front ≡ own old.me old.front
