-- The pieces of a plan that was done.
use Rattle.std.proofs.Common.{◌≡◌, ◌-◌, List, length, map, ap, ◌∙◌, arith}
use Rattle.std.proofs.lemmas.List.{length-map}
use Rattle.std.specs.Prelude.{take}
use Rattle.std.specs.Arc.{arc_value}
use Rattle.history.specs.Entries.{History, imports, snap}
use Rattle.history.specs.Pieces.{git_ranges_in}
use Rattle.book_model.specs.Jobs.{FinishedHolds}
use Rattle.impact_job.specs.Tables.{IsTodoOf, plan_upto}
use Rattle.impact_job.specs.declared.tables.Todo.{Todo}
use Rattle.impact_job.proofs.Walking.{zip-length}
use Rattle.snapshot.specs.declared.job.Finished.{Finished}
use Rattle.snapshot.specs.declared.job.Finished.TheVariants as done
use Rattle.snapshot.specs.declared.job.Place.{Place}
use Rattle.snapshot.specs.Jobs.{cell_of, planned_place, outcome, IsDone}
use Rattle.desk_calls.specs.Alone.{ArePlanned}
use Rattle.desk_calls.proofs.Weights.{few-ranges}

pub planned-few : (f : Finished) (h : History) → FinishedHolds outcome IsDone f h → ArePlanned (outcome f).cells h
planned-few (done.Plan build plan places) h holds =
    let upto = plan_upto (arc_value plan) in
    let is = holds.stands.stands in
    let todo : List Todo = (arc_value plan).todo.items in
    let ranges = git_ranges_in (take upto (imports h)) in
    let each : length ranges ≡ length todo = zip-length (IsTodoOf (snap h (build - 1)) (take upto (imports h))) ranges todo is.0.todo in
    let long : length (map cell_of places.items) ≡ length todo =
    length-map places.items cell_of ∙ ap (λ (ps : List Place). length ps) is.1 ∙ length-map todo planned_place in
    let few = few-ranges upto h in
    record { free = holds.free; few = omega (arith, each, long, few) }
planned-few (done.Piece build upto number set) h holds = record { free = holds.free; few = omega arith }
planned-few (done.Assemble build snapshot) h holds = record { free = holds.free; few = omega arith }
