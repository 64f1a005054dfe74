use Rattle.std.proofs.Common.{sym, subst}
use Rattle.history.specs.Pieces.{git_ranges_in}
use Rattle.impact_job.specs.declared.tables.Todo.{Todo}
use Rattle.impact_job.specs.Tables.{IsTodoOf}
use Rattle.impact_job.specs.Walks.{CanBeDone}
use Rattle.impact_job.proofs.Grouping.{can-each, can-at, standing-at}
use Rattle.impact_job.proofs.piece_sets.set_of.Goals as goal

pub set_for-requires : goal.set_for-requires
set_for-requires g c =
    let b = c.requires.plan.0 in
    let p = c.requires.plan.1.0 in
    let is = c.requires.plan.1.1 in
    subst (λ (t : Todo). CanBeDone t) (sym c.index.ensures)
    (can-at c.args.plan.now.todo.items c.args.number c.index.result.now c.requires.number (can-each b p is.front (git_ranges_in p) c.args.plan.now.todo.items is.todo))

pub returns : goal.returns
returns g c = λ b p x is at.
    c.set_for.ensures b p x (standing-at (IsTodoOf b p) (git_ranges_in p) c.args.plan.now.todo.items c.args.number x c.index.result.now at c.index.ensures is.todo)
