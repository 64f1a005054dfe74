-- A pass of a book's lock as a caller (our own).
use Rattle.std.specs.Prelude.{◌≡◌, ℕ, ◌≤◌, ◌^◌, [], Option, Some, None}
use mathlib.Core.List.{IsPrefix}
use Rattle.settings.specs.declared.Settings.{Settings}
use Rattle.settings.specs.Ranges.{default_settings}
use Rattle.turn_lock.specs.declared.note.Noted.{Noted}
use Rattle.turn_lock.specs.History.{entries_by, saturating_next}
use Rattle.turn_lock.specs.Turn.{PassState}
use Rattle.history.specs.declared.past.Past.{Past}
use Rattle.history.specs.Entries.{caller, weight}
use Rattle.history.specs.Legality.{IsLegal}
use Rattle.book_model.specs.Desk.{Caller}

-- the settings of a lock's book; each lock has them
abbrev pub settings_of : Option Settings → Settings
settings_of None = default_settings
settings_of (Some settings) = settings

-- the caller that acts by this pass, with its counts
abbrev pub caller_of : ℕ → ℕ → ℕ → ℕ → PassState Past Settings → Caller
caller_of me busy turns outs pass = record {
  lock = Some pass.lock;
  settings = settings_of pass.lock.fixed;
  front = pass.seen;
  alone = None;
  me = me;
  busy = busy;
  turns = turns;
  outs = outs;
  last = pass.last;
}

-- the entries that the pass has seen are a legal history within the limit
abbrev pub KnowsSound : PassState Past Settings → Type 0
KnowsSound pass = IsLegal pass.seen × (weight pass.seen ≤ (settings_of pass.lock.fixed).weight)

-- A caller that has just entered by a pass: what it knows begins with what the pass had seen, and nothing in it is its own.
pub record HasEntered (pass : PassState Past Settings) (c : Caller) : Type 0 where
  pub lock : c.lock ≡ Some pass.lock
  pub settings : c.settings ≡ settings_of pass.lock.fixed
  pub begins : IsPrefix pass.seen c.front
  pub own : entries_by caller c.me c.front ≡ []
  pub alone : c.alone ≡ None
  pub busy : c.busy ≡ 0
  pub turns : c.turns ≡ 0
  pub outs : c.outs ≡ 0
  pub turned : c.last.turned ≡ saturating_next pass.last.turned

-- The pass that comes back where no number is left: its turn left the note that says so.
pub record IsRefused (old new : PassState Past Settings) : Type 0 where
  pub lock : new.lock ≡ old.lock
  pub begins : IsPrefix old.seen new.seen
  pub number : new.number ≡ old.number
  pub turned : new.last.turned ≡ saturating_next old.last.turned
  pub note : new.last.left ≡ record { serial = saturating_next new.last.found.serial; number = 2 ^ 63; by = 0; owner = None; kind = Noted.CallersSpent }

-- the pass of a caller that leaves
pub record HasLeft (c : Caller) (pass : PassState Past Settings) : Type 0 where
  pub lock : Some pass.lock ≡ c.lock
  pub seen : pass.seen ≡ c.front
  pub number : pass.number ≡ Some c.me
  pub last : pass.last ≡ c.last
