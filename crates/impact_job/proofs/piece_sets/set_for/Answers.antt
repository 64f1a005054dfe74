use Rattle.std.proofs.Common.{subst}
use Rattle.std.specs.Arc.{arc_value}
use Rattle.std.proofs.lemmas.Result.{IfOk-weaker}
use Rattle.impact_job.specs.declared.tables.Todo.{Todo}
use Rattle.impact_job.specs.Tables.{IsTodoOf}
use Rattle.impact_job.proofs.Grouping.{piece-set}
use Rattle.impact_job.proofs.piece_sets.set_for.Goals as goal

pub returns-in-Piece : goal.returns-in-Piece
returns-in-Piece g c = λ b p x is.
    IfOk-weaker c.work.result _ _ (λ s stands. piece-set b p x c.in-Piece.piece (arc_value s) (subst (λ (t : Todo). IsTodoOf b p x t) c.in-Piece.is is) stands) c.work.ensures.stands
