-- A caller that is alone with its book: the build that is open, and who has its jobs, call by call (our own).
use Rattle.std.specs.Prelude.{◌≡◌, ℕ, ◌+◌, ◌*◌, ◌<◌, ◌≤◌, false, List, [], ◌∷◌, ◌++◌, length, slice_set, Option, Some, None, IfSome, is_some}
use Rattle.std.specs.List.{list_any}
use Rattle.settings.specs.declared.TheConstants.{MAX_WEIGHT}
use Rattle.turn_lock.specs.History.{GrownBy}
use Rattle.history.specs.declared.past.Past.TheVariants.{Publish}
use Rattle.history.specs.Entries.{History, caller, imports, newest, weight}
use Rattle.book_model.specs.State.{Kind, Plan, Piece, Assemble, Cell, Free, OutTo, Done, Build, is_out, first_free, opened, filled, moved, cells_in, published}
use Rattle.book_model.specs.Jobs.{JobName, owner_in}
use Rattle.book_model.specs.Desk.{Caller}
use Rattle.session_model.specs.Alone.{HasNoJob}

-- it stays alone where it was, and no entry of others came
pub record OnlyOwn (old new : Caller) : Type 0 where
  pub still : is_some new.alone ≡ is_some old.alone
  pub grown : IfSome old.alone (λ b. GrownBy caller old.me old.front new.front)

-- ---- jobs

-- the build that is open, or one over all imports
abbrev pub build_over : History → Option Build → Build
build_over h None = opened (length (imports h))
build_over h (Some b) = b

-- the caller is alone and has this job, the first one of the build that was free, and no other is out
pub record HasJob (b : Build) (job : JobName) (c : Caller) : Type 0 where
  pub there : c.alone ≡ Some (Some (moved b job.number (OutTo c.me)))
  pub owned : owner_in (Some (moved b job.number (OutTo c.me))) (newest c.front + 1) job ≡ Some c.me
  pub free : list_any is_out b.cells ≡ false
  pub first : first_free b.cells ≡ Some job.number

-- the pieces of a plan: nobody has one yet, and they are few, since each is of a GIT range, which weighs 64 bytes
pub record ArePlanned (cells : List Cell) (h : History) : Type 0 where
  pub free : list_any is_out cells ≡ false
  pub few : 64 * length cells ≤ weight h

-- where no job was out this one is now
abbrev pub HandsOut : JobName → Caller → Caller → Type 0
HandsOut job old new = (build : Option Build) → old.alone ≡ Some build → list_any is_out (cells_in build) ≡ false → HasJob (build_over old.front build) job new × (new.front ≡ old.front)

-- what the build comes to behind a job of this kind: behind a plan pieces that are so far, and behind the assembly its publication
abbrev pub BuildsOn : Kind → Build → ℕ → List Cell → Caller → Caller → Type 0
BuildsOn Plan b number cells old new = (new.alone ≡ Some (Some (filled b.upto cells))) × (new.front ≡ old.front)
BuildsOn Piece b number cells old new = (new.alone ≡ Some (Some (filled b.upto (slice_set b.cells number Done)))) × (new.front ≡ old.front)
BuildsOn Assemble b number cells old new = (new.alone ≡ Some None) × (new.front ≡ old.front ++ Publish old.me b.upto ∷ [])

-- the job that the caller had was done
abbrev pub ComesIn : JobName → List Cell → Caller → Caller → Type 0
ComesIn job cells old new = (b : Build) → HasJob b job old → BuildsOn b.phase b job.number cells old new × HasNoJob new

-- the job that the caller had was handed back
abbrev pub ComesBack : JobName → Caller → Caller → Type 0
ComesBack job old new = (b : Build) → HasJob b job old → HasNoJob new × (new.front ≡ old.front)

-- the first job of the build that was free was done, which of a plan gave such pieces
pub record DoesFirst (b : Build) (old new : Caller) : Type 0 where
  pub number : ℕ
  pub cells : List Cell
  pub first : first_free b.cells ≡ Some number
  pub planned : ArePlanned cells old.front
  pub builds : BuildsOn b.phase b number cells old new

-- a turn: a job of the build was done
abbrev pub TurnsBuild : Caller → Caller → Type 0
TurnsBuild old new = (build : Option Build) → old.alone ≡ Some build → list_any is_out (cells_in build) ≡ false → DoesFirst (build_over old.front build) old new

-- ---- a publication

-- how far it is: not begun, planned with the pieces that are so far, or over
pub data Stage : Type 0 where
  Begun : Stage
  Planned : List Cell → Stage
  Over : Stage

-- the most turns that it takes: a plan, a piece for each 64 bytes that a history may weigh, and an assembly
abbrev pub most_alone : ℕ
most_alone = 67108866

-- how many pieces are not done
abbrev pub undone : List Cell → ℕ
undone [] = 0
undone (Free ∷ cells) = undone cells + 1
undone (OutTo by ∷ cells) = undone cells + 1
undone (Done ∷ cells) = undone cells

-- after so many turns it may be so far: nobody has a piece, and there is a turn for each that is not done, and one for the assembly
abbrev pub MayBeAt : Stage → ℕ → Type 0
MayBeAt Begun took = took ≡ 0
MayBeAt (Planned cells) took = (list_any is_out cells ≡ false) × (took + undone cells + 1 ≤ most_alone)
MayBeAt Over took = took ≤ most_alone

abbrev pub build_at : Stage → History → Option Build
build_at Begun h = None
build_at (Planned cells) h = Some (filled (length (imports h)) cells)
build_at Over h = None

abbrev pub front_at : Stage → ℕ → History → History
front_at Begun me h = h
front_at (Planned cells) me h = h
front_at Over me h = h ++ Publish me (length (imports h)) ∷ []

-- it is begun only where the newest snapshot has fewer imports
abbrev pub IsNeededAt : Stage → History → Type 0
IsNeededAt Begun h = Unit {0}
IsNeededAt (Planned cells) h = published h < length (imports h)
IsNeededAt Over h = published h < length (imports h)

-- the caller, which was alone at this history, is so far
pub record IsAt (stage : Stage) (me : ℕ) (h : History) (c : Caller) : Type 0 where
  pub build : c.alone ≡ Some (build_at stage h)
  pub front : c.front ≡ front_at stage me h
  pub mine : c.me ≡ me
  pub needed : IsNeededAt stage h

-- and is so after so many turns
pub record IsAfter (took me : ℕ) (h : History) (c : Caller) : Type 0 where
  pub light : weight h ≤ MAX_WEIGHT
  pub stage : Stage
  pub may : MayBeAt stage took
  pub there : IsAt stage me h c
