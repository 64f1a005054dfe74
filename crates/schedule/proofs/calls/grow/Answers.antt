use Rattle.std.proofs.Common.{ℕ, List, sym, subst, ◌∙◌}
use Rattle.std.specs.Arc.{arc_value}
use Rattle.history.specs.Conditions.{IsOfVersion}
use Rattle.schedule.proofs.Growing.{going-on}
use Rattle.schedule.proofs.Playing.{entered-rows}
use Rattle.schedule.proofs.calls.grow.Goals as goal

pub grow-requires-clause-version : goal.grow-requires-clause-version
grow-requires-clause-version g c =
    subst (λ (k : List ℕ). IsOfVersion k c.in_ok-version.version (arc_value c.in_ok-larger-in-Ok.larger) c.args.book.now.history) (sym c.in_ok-owned.ensures)
    (going-on c.args.book.now c.args.key.now c.in_ok-version.version c.deref.result.now c.args.rows.now (arc_value c.in_ok-larger-in-Ok.larger) c.in_ok-version.ensures.0 (c.deref.ensures ∙ c.in_ok-version.ensures.1)
    (c.in_ok-larger-in-Ok.ensures.ok ∙ c.in-Ok.ensures.joined))

pub returns-in-Ok-grow-clause-holding : goal.returns-in-Ok-grow-clause-holding
returns-in-Ok-grow-clause-holding g c =
    entered-rows c.args.book.now c.grow.new.self c.args.by c.in_ok-owned.owned (arc_value c.in_ok-larger-in-Ok.larger) c.args.held.now c.in-Ok-grow.ensures.1.2 c.requires.holding
