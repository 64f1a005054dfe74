-- What a book keeps, and the state that contracts see (our own).
use Rattle.std.specs.Prelude.{◌≡◌, ℕ, ◌+◌, ◌≤◌, if◌then◌else◌, nat_lt, List, [], ◌∷◌, length, map, take, drop, Option, IfSome}
use Rattle.std.specs.Arc.{arc_value}
use Rattle.std.specs.declared.sync.Arc.{Arc}
use Rattle.settings.specs.declared.Settings.{Settings}
use Rattle.settings.specs.Ranges.{IsBetween}
use Rattle.settings.specs.declared.TheConstants.{MAX_KEEP, MAX_WEIGHT}
use Rattle.turn_lock.specs.declared.note.Note.{Note}
use Rattle.history.specs.Entries.{History, imports, newest, snap, weight, oldest_kept}
use Rattle.book_model.specs.State.{State, published}
use Rattle.book_model.specs.Sound.{IsSound}
use Rattle.snapshot.specs.declared.snapshot.Snapshot.{Snapshot}
use Rattle.snapshot.specs.Snapshots.{StandsFor}
use Rattle.book.specs.declared.build.Open.{Open}
use Rattle.book.specs.declared.ledger.Counts.{Counts}
use Rattle.book.specs.Builds.{build_of, IsUnderWay}

abbrev pub state_of : Settings → History → ℕ → Option Open → Note → State
state_of settings h callers build note = record { settings = settings; history = h; callers = callers; build = build_of build; note = note }

abbrev pub values_of : {X Z : Type 0} → List (Arc X Z) → List X
values_of shared = map (λ a. arc_value a) shared

-- one after another, the snapshots from this number on
abbrev pub AreKept : History → ℕ → List Snapshot → Type 0
AreKept h s [] = Unit {0}
AreKept h s (x ∷ xs) = StandsFor x (snap h s) × AreKept h (s + 1) xs

-- at most so many, the first going where there are more by one
abbrev pub trimmed : {X : Type 0} → ℕ → List X → List X
trimmed keep xs = if nat_lt keep (length xs) then drop 1 xs else xs

-- Settings with which a book can be kept: of how many snapshots are kept and what entries may weigh. The others, as the hits on a page, are of no matter to it.
pub record SuitsBook (settings : Settings) : Type 0 where
  pub keep : IsBetween 1 MAX_KEEP settings.keep
  pub weight : settings.weight ≤ MAX_WEIGHT

-- What is counted and kept is what the history says.
pub record IsBook (settings : Settings) (h : History) (callers : ℕ) (build : Option Open) (note : Note) (counts : Counts) (kept : List Snapshot) : Type 0 where
  pub sound : IsSound (state_of settings h callers build note)
  pub suits : SuitsBook settings
  pub imported : counts.imports ≡ length (imports h)
  pub used : counts.used ≡ weight h
  pub newest_is : counts.newest ≡ newest h
  pub published_is : counts.published ≡ published h
  -- the imports of the newest snapshot are those of the first so many entries
  pub after : counts.after ≤ length h
  pub reached : length (imports (take counts.after h)) ≡ counts.published
  pub kept_are : AreKept h (oldest_kept settings.keep h) kept
  pub kept_count : length kept + oldest_kept settings.keep h ≡ counts.newest + 1
  pub underway : IfSome build (λ o. IsUnderWay (counts.newest + 1) h o.upto o.place o.stage)
