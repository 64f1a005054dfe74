use Rattle.std.proofs.Common.{sym, ◌∙◌}
use Rattle.impact_job.proofs.Deciding.{piece-for}
use Rattle.impact_job.proofs.todo.as_piece.Goals as goal

pub returns : goal.returns
returns c = λ b p x advisory entry range whole at kind old other.
    piece-for b p _ x (c.in_ok-try_clone.ensures ∙ sym advisory) (sym entry) (sym range) (c.in_ok-try_clone-2.ensures ∙ whole) at kind old other
