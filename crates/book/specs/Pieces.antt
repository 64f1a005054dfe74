-- The pieces of a build that is open (our own).
use Rattle.std.specs.Prelude.{◌≡◌, ℕ, ◌≤◌, List, map, Option, Some, None, Bool, true, not, count_by, slice_set, slice_index_or}
use Rattle.std.specs.List.{AllZip, list_all, position_or_len}
use Rattle.std.specs.Arc.{arc_value}
use Rattle.history.specs.declared.past.Past.{Past}
use Rattle.history.specs.Pieces.{GitRange, git_ranges_in}
use Rattle.impact_set.specs.Standing.{Known}
use Rattle.piece_work.specs.Sets.{IsSetOf}
use Rattle.impact_job.specs.declared.tables.Plan as plans
use Rattle.impact_job.specs.declared.tables.Todo.{Todo}
use Rattle.impact_job.specs.declared.tables.Todo.TheVariants as todo
use Rattle.impact_job.specs.Tables.{IsPlanOf}
use Rattle.book_model.specs.State.{Cell, Done, is_free, is_done, holder, out_count}
use Rattle.snapshot.specs.declared.job.Place.{Place}
use Rattle.snapshot.specs.declared.job.Place.TheVariants.{Free, Out, Made, Carried}
use Rattle.snapshot.specs.Jobs.{cell_of}

-- a plan, and where each of its pieces is
pub record Placed : Type 0 where
  pub plan : plans.Plan
  pub places : List Place

abbrev pub cells_of : Placed → List Cell
cells_of x = map cell_of x.places

-- the pieces with this one elsewhere
abbrev pub with_place : Placed → ℕ → Place → Placed
with_place x number place = record { plan = x.plan; places = slice_set x.places number place }

-- the caller has the piece with this number
abbrev pub IsOutTo : ℕ → ℕ → List Cell → Type 0
IsOutTo by number cells = holder (slice_index_or cells number Done) ≡ Some by

-- the set that a piece made
abbrev pub set_at : Place → Option Known
set_at Free = None
set_at (Out by) = None
set_at (Made set) = Some (arc_value set)
set_at Carried = None

abbrev pub is_undone : Cell → Bool
is_undone cell = not (is_done cell)

-- What is counted of pieces: no place below the first number is free, and so many are out and not done.
pub record AreCounted (cells : List Cell) (from out left : ℕ) : Type 0 where
  pub from_is : from ≤ position_or_len is_free cells
  pub out_is : out ≡ out_count cells
  pub left_is : left ≡ count_by is_undone cells

-- a set that was made is that of the range, on the graphs after these imports
abbrev pub IsMadeOf : List Past → GitRange → Place → Type 0
IsMadeOf p x Free = Unit {0}
IsMadeOf p x (Out by) = Unit {0}
IsMadeOf p x (Made set) = IsSetOf p x (arc_value set)
IsMadeOf p x Carried = Unit {0}

-- a set is carried on only where the plan has one
abbrev pub MayBeAt : Todo → Place → Type 0
MayBeAt (todo.Carried set) place = Unit {0}
MayBeAt (todo.Piece piece) Free = Unit {0}
MayBeAt (todo.Piece piece) (Out by) = Unit {0}
MayBeAt (todo.Piece piece) (Made set) = Unit {0}
MayBeAt (todo.Piece piece) Carried = ⊥

-- the pieces are those of a build over the imports p which stands on the first of them, b
pub record ArePiecesOf (x : Placed) (b p : List Past) : Type 0 where
  pub plan : IsPlanOf x.plan b p
  pub made : AllZip (IsMadeOf p) (git_ranges_in p) x.places
  pub planned : AllZip MayBeAt x.plan.todo.items x.places

abbrev pub ArePiecesDone : Placed → Type 0
ArePiecesDone x = list_all is_done (cells_of x) ≡ true
