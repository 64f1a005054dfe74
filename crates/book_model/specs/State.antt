-- A book as contracts see it (our own).
use Rattle.std.specs.Prelude.{ℕ, Bool, true, false, if◌then◌else◌, List, [], ◌∷◌, ◌++◌, slice_set, count_by, position, Option, Some, None}
use Rattle.std.specs.List.{list_all}
use Rattle.settings.specs.declared.Settings.{Settings}
use Rattle.turn_lock.specs.declared.note.Note.{Note}
use Rattle.turn_lock.specs.declared.note.Noted.{Noted}
use Rattle.turn_lock.specs.History.{saturating_next}
use Rattle.history.specs.declared.past.Past.{Past}
use Rattle.history.specs.Entries.{History, newest, upto_of}

-- ---- builds

-- the kinds of job, which are a build's phases too: its plan, its pieces, and its assembly
pub data Kind : Type 0 where
  Plan : Kind
  Piece : Kind
  Assemble : Kind

-- where a job is: nobody has it, a caller has it, or it is done
pub data Cell : Type 0 where
  Free : Cell
  OutTo : ℕ → Cell
  Done : Cell

-- a build that is open: of how many imports it is to be, which kind of jobs it is at, and where each of them is
pub record Build : Type 0 where
  pub upto : ℕ
  pub phase : Kind
  pub cells : List Cell

abbrev pub is_kind : Kind → Kind → Bool
is_kind Plan Plan = true
is_kind Piece Piece = true
is_kind Assemble Assemble = true
is_kind k other = false

abbrev pub is_free : Cell → Bool
is_free Free = true
is_free (OutTo by) = false
is_free Done = false

abbrev pub is_out : Cell → Bool
is_out Free = false
is_out (OutTo by) = true
is_out Done = false

abbrev pub is_done : Cell → Bool
is_done Free = false
is_done (OutTo by) = false
is_done Done = true

-- the caller that has it
abbrev pub holder : Cell → Option ℕ
holder Free = None
holder (OutTo by) = Some by
holder Done = None

-- the number of the first job that is free
abbrev pub first_free : List Cell → Option ℕ
first_free cells = position is_free cells

-- how many jobs are out
abbrev pub out_count : List Cell → ℕ
out_count cells = count_by is_out cells

-- a build that was just opened over so many imports
abbrev pub opened : ℕ → Build
opened upto = record { upto = upto; phase = Plan; cells = Free ∷ [] }

abbrev pub assembling : ℕ → Build
assembling upto = record { upto = upto; phase = Assemble; cells = Free ∷ [] }

abbrev pub with_pieces : ℕ → List Cell → Build
with_pieces upto cells = record { upto = upto; phase = Piece; cells = cells }

-- a build whose pieces are these; it is assembled as soon as all of them are done
abbrev pub filled : ℕ → List Cell → Build
filled upto cells = if list_all is_done cells then assembling upto else with_pieces upto cells

-- the build with this job elsewhere
abbrev pub moved : Build → ℕ → Cell → Build
moved b number cell = record { upto = b.upto; phase = b.phase; cells = slice_set b.cells number cell }

-- the jobs of the build, where one is open
abbrev pub cells_in : Option Build → List Cell
cells_in None = []
cells_in (Some b) = b.cells

-- ---- the state

pub record State : Type 0 where
  pub settings : Settings
  -- the entries, the oldest first
  pub history : History
  -- how many caller numbers were given
  pub callers : ℕ
  pub build : Option Build
  -- the last answer that the history doesn't show
  pub note : Note

-- nothing happened yet
abbrev pub first_note : Note
first_note = record { serial = 0; number = 0; by = 0; owner = None; kind = Noted.Plain }

abbrev pub opening : Settings → State
opening settings = record { settings = settings; history = []; callers = 0; build = None; note = first_note }

-- how many imports the newest snapshot is of
abbrev pub published : History → ℕ
published h = upto_of h (newest h)

abbrev pub with_entry : State → Past → State
with_entry s e = record s { history = s.history ++ e ∷ [] }

abbrev pub with_build : State → Option Build → State
with_build s build = record s { build = build }

-- the same but for the note, which tells of an answer to a caller
abbrev pub noted : State → Noted → ℕ → ℕ → Option ℕ → State
noted s kind by number owner = record s { note = record { serial = saturating_next s.note.serial; number = number; by = by; owner = owner; kind = kind } }
