use Rattle.drill.proofs.Drawing.{drawn-is}
use Rattle.drill.proofs.input.drawn.Goals as goal

pub returns : goal.returns
returns c =
    drawn-is c.args.seed c.args.size (record { rows = c.in_ok-rows.rows; advisories = c.in_ok-advisories.advisories; asked = c.in_ok-asked.asked }) c.from_seed-draws.result c.commits.new.draws c.advisories.new.draws c.asked.new.draws
    c.from_seed-draws.ensures c.in_ok-rows.ensures c.in_ok-advisories.ensures c.in_ok-asked.ensures
