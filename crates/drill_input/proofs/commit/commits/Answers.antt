use Rattle.drill_input.proofs.Drawing.{commits-step}
use Rattle.drill_input.proofs.commit.commits.Goals as goal

pub loop-number-preserved : goal.loop-number-preserved
loop-number-preserved c =
    commits-step c.loop-number.number c.args.draws.now c.loop-number.draws c.commit.new.draws c.loop-number.rows.items c.push.new.self.items c.in_ok-commit.field-0
    c.loop-number.invariant c.in_ok-commit.ensures c.in_ok-push.ensures.items
