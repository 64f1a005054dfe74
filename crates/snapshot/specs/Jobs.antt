-- What jobs are called, and what they are to give (our own).
use Rattle.std.specs.Prelude.{◌≡◌, ◌<◌, ℕ, List, [], length, map, slice_get, MatchOption}
use Rattle.std.specs.Arc.{arc_value}
use Rattle.history.specs.declared.past.Past.{Past}
use Rattle.history.specs.Pieces.{git_ranges_in}
use Rattle.piece_work.specs.Sets.{IsSetOf}
use Rattle.book_model.specs.State.{Kind, Plan, Piece, Assemble, Cell, Free, OutTo, Done}
use Rattle.book_model.specs.Jobs.{JobName, Outcome}
use Rattle.impact_job.specs.declared.tables.Todo.{Todo}
use Rattle.impact_job.specs.declared.tables.Todo.TheVariants as todo
use Rattle.impact_job.specs.Tables.{IsPrefixOf, IsPlanOf, IsFilledOf, plan_upto, filled_upto}
use Rattle.snapshot.specs.declared.job.Job.{Job}
use Rattle.snapshot.specs.declared.job.Job.TheVariants as to_do
use Rattle.snapshot.specs.declared.job.Finished.{Finished}
use Rattle.snapshot.specs.declared.job.Finished.TheVariants as done
use Rattle.snapshot.specs.declared.job.Place.{Place}
use Rattle.snapshot.specs.declared.job.Place.TheVariants as places
use Rattle.snapshot.specs.Snapshots.{StandsFor, snapshot_upto}

-- ---- pieces

-- where a piece is, as a book's state has it: what is carried on is done
abbrev pub cell_of : Place → Cell
cell_of places.Free = Free
cell_of (places.Out by) = OutTo by
cell_of (places.Made set) = Done
cell_of places.Carried = Done

-- where it is when the plan is made
abbrev pub planned_place : Todo → Place
planned_place (todo.Carried set) = places.Carried
planned_place (todo.Piece piece) = places.Free

-- ---- names

-- the only job of its kind in a build
abbrev pub only : ℕ → ℕ → Kind → JobName
only build upto kind = record { build = build; upto = upto; kind = kind; number = 0 }

-- the piece with a number
abbrev pub piece : ℕ → ℕ → ℕ → JobName
piece build upto number = record { build = build; upto = upto; kind = Piece; number = number }

abbrev pub name : Job → JobName
name (to_do.Plan build prefix) = only build (arc_value prefix).upto Plan
name (to_do.Piece build plan number) = piece build (plan_upto (arc_value plan)) number
name (to_do.Assemble build base filled) = only build (filled_upto (arc_value filled)) Assemble

-- the job that was done, and after a plan where each piece is
abbrev pub outcome : Finished → Outcome
outcome (done.Plan build plan places) = record { job = only build (plan_upto (arc_value plan)) Plan; cells = map cell_of places.items }
outcome (done.Piece build upto number set) = record { job = piece build upto number; cells = [] }
outcome (done.Assemble build snapshot) = record { job = only build (snapshot_upto (arc_value snapshot)) Assemble; cells = [] }

-- ---- what they are of

-- it is a job of a build over the imports p which stands on the first of them, b
abbrev pub IsJob : Job → List Past → List Past → Type 0
IsJob (to_do.Plan build prefix) b p = IsPrefixOf (arc_value prefix) b p
IsJob (to_do.Piece build plan number) b p = IsPlanOf (arc_value plan) b p × (number < length (arc_value plan).todo.items)
IsJob (to_do.Assemble build base filled) b p = StandsFor (arc_value base) b × IsFilledOf (arc_value filled) b p

-- it is a job of some build
abbrev pub IsSomeJob : Job → Type 0
IsSomeJob job = (b : List Past) × ((p : List Past) × IsJob job b p)

-- it is what such a job is to give
abbrev pub IsDone : Finished → List Past → List Past → Type 0
IsDone (done.Plan build plan places) b p = IsPlanOf (arc_value plan) b p × (places.items ≡ map planned_place (arc_value plan).todo.items)
IsDone (done.Piece build upto number set) b p = MatchOption (slice_get (git_ranges_in p) number) ⊥ (λ x. IsSetOf p x (arc_value set))
IsDone (done.Assemble build snapshot) b p = StandsFor (arc_value snapshot) p
