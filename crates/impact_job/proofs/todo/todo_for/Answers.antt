use Rattle.std.proofs.Common.{Option, ap, sym, subst, refl, ◌∙◌}
use Rattle.std.specs.Prelude.{option_map}
use Rattle.std.specs.Arc.{arc_value}
use Rattle.history.specs.Prefixes.{graph}
use Rattle.history.specs.Lookups.{has_import}
use Rattle.impact_job.specs.Walks.{IsOld}
use Rattle.impact_job.proofs.Deciding.{came, fresh-kind, old-there, old-missing, repo-is}
use Rattle.impact_job.proofs.todo.todo_for.Goals as goal

pub returns-in-None : goal.returns-in-None
returns-in-None c = λ b p x k advisory entry range repo at old.
    let anew = has_import (came b p) x.advisory.id in
    let none = subst (λ (o : Option _). IsOld anew b x (option_map (λ a. arc_value a.now) o)) c.in-None.is old in
    c.as_piece.ensures b p x advisory entry range (c.graph-whole.ensures b p k ∙ ap (graph p) (sym (repo-is x c.args.key.now repo))) at (fresh-kind b p x (old-missing b p anew x none)) (λ n. absurd (n refl)) (λ e. absurd cc)

pub returns-in-Some : goal.returns-in-Some
returns-in-Some c = λ b p x k advisory entry range repo at old.
    let anew = has_import (came b p) x.advisory.id in
    let there = old-there b p anew x (arc_value c.in-Some.set.now) (subst (λ (o : Option _). IsOld anew b x (option_map (λ a. arc_value a.now) o)) c.in-Some.is old) in
    c.todo_with.ensures b p x k advisory entry range repo at there.0 there.1
