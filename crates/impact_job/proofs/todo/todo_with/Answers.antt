use Rattle.std.proofs.Common.{ap, sym, subst, ◌∙◌}
use Rattle.std.specs.Arc.{arc_value}
use Rattle.history.specs.Prefixes.{graph}
use Rattle.history.specs.Lookups.{has_grow}
use Rattle.impact_set.specs.Standing.{Known}
use Rattle.piece_work.specs.Sets.{IsSetOf}
use Rattle.impact_job.proofs.Deciding.{came, extend-kind, carry-kind, stayed, repo-is}
use Rattle.impact_job.proofs.todo.todo_with.Goals as goal

pub returns-then-has_grown : goal.returns-then-has_grown
returns-then-has_grown c = λ b p x k advisory entry range repo at none set.
    let key = repo-is x c.args.key.now repo in
    c.as_piece.ensures b p x advisory entry range (c.graph-whole.ensures b p k ∙ ap (graph p) (sym key)) at
    (extend-kind b p x none (ap (has_grow (came b p)) key ∙ sym (c.has_grown.ensures b p k) ∙ c.if-has_grown.true))
    (λ n. subst (λ (s : Known). IsSetOf b x s) (sym c.in_ok-set.ensures) set) (λ e. absurd cc)

pub returns-else-has_grown : goal.returns-else-has_grown
returns-else-has_grown c = λ b p x k advisory entry range repo at none set.
    let grown = ap (has_grow (came b p)) (repo-is x c.args.key.now repo) ∙ sym (c.has_grown.ensures b p k) ∙ c.if-has_grown.false in
    (carry-kind b p x none grown, stayed b p x (arc_value c.in_ok-set.set) k.front grown (subst (λ (s : Known). IsSetOf b x s) (sym c.in_ok-set.ensures) set))
