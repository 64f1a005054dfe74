-- The build that a book keeps, as a build of its state (our own).
use Rattle.std.specs.Prelude.{◌≡◌, ℕ, ◌≤◌, List, [], ◌∷◌, length, take, Option, Some, None}
use Rattle.std.specs.Arc.{arc_value}
use Rattle.history.specs.declared.past.Past.{Past}
use Rattle.history.specs.Entries.{History, imports}
use Rattle.book_model.specs.State.{Kind, Plan, Piece, Assemble, Cell, Free, OutTo, Build}
use Rattle.book_model.specs.Jobs.{JobName, StandsIn}
use Rattle.impact_job.specs.Tables.{IsPrefixOf, plan_upto}
use Rattle.book.specs.Pieces.{cells_of, ArePiecesOf, ArePiecesDone}
use Rattle.book.specs.declared.build.Open.{Open}
use Rattle.book.specs.declared.build.Stage.{Stage}
use Rattle.book.specs.declared.build.Stage.TheVariants as stages
use Rattle.book.specs.declared.build.Part.{Part}
use Rattle.book.specs.declared.build.Part.TheVariants as parts

-- ---- jobs

abbrev pub kind_of : Part → Kind
kind_of parts.Plan = Plan
kind_of (parts.Piece number) = Piece
kind_of parts.Assemble = Assemble

abbrev pub number_of : Part → ℕ
number_of parts.Plan = 0
number_of (parts.Piece number) = number
number_of parts.Assemble = 0

abbrev pub name_of : ℕ → ℕ → Part → JobName
name_of build upto part = record { build = build; upto = upto; kind = kind_of part; number = number_of part }

-- ---- stages

abbrev pub phase_of : Stage → Kind
phase_of (stages.Plan prefix) = Plan
phase_of (stages.Pieces x) = Piece
phase_of (stages.Assemble x) = Assemble

abbrev pub owned_by : Option ℕ → Cell
owned_by None = Free
owned_by (Some by) = OutTo by

-- where the jobs of a stage are, whose one job has this owner where it has but one
abbrev pub stage_cells : Stage → Option ℕ → List Cell
stage_cells (stages.Plan prefix) owner = owned_by owner ∷ []
stage_cells (stages.Pieces x) owner = cells_of x
stage_cells (stages.Assemble x) owner = owned_by owner ∷ []

abbrev pub build_with : ℕ → Stage → Option ℕ → Build
build_with upto stage owner = record { upto = upto; phase = phase_of stage; cells = stage_cells stage owner }

abbrev pub open_build : Open → Build
open_build o = build_with o.upto o.stage o.owner

abbrev pub build_of : Option Open → Option Build
build_of None = None
build_of (Some o) = Some (open_build o)

-- how many imports the build of a stage is of
abbrev pub stage_upto : Stage → ℕ
stage_upto (stages.Plan prefix) = (arc_value prefix).upto
stage_upto (stages.Pieces x) = plan_upto x.plan
stage_upto (stages.Assemble x) = plan_upto x.plan

-- it is a stage of a build over the imports p which stands on the first of them, b
abbrev pub IsStageOf : Stage → List Past → List Past → Type 0
IsStageOf (stages.Plan prefix) b p = IsPrefixOf (arc_value prefix) b p
IsStageOf (stages.Pieces x) b p = ArePiecesOf x b p
IsStageOf (stages.Assemble x) b p = ArePiecesOf x b p × ArePiecesDone x

-- An open build is that of its name, and its imports are those of the first so many entries.
pub record IsUnderWay (next : ℕ) (h : History) (upto place : ℕ) (stage : Stage) : Type 0 where
  pub holds : StandsIn (IsStageOf stage) next upto h
  pub named : stage_upto stage ≡ upto
  pub within : place ≤ length h
  pub reached : length (imports (take place h)) ≡ upto
