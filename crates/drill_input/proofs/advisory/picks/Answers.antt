use Rattle.drill_input.specs.Advisories.{picks}
use Rattle.drill_input.proofs.Picking.{picks-are}
use Rattle.drill_input.proofs.advisory.picks.Goals as goal

pub returns : goal.returns
returns c =
    picks-are c.args.size c.args.draws.now c.below-name.new.self c.below-minor.new.self c.commit-introduced.new.self c.commit-fixed.new.self c.limit-limit.new.draws
    c.below-name.result c.below-minor.result c.commit-introduced.result c.commit-fixed.result c.limit-limit.result
    c.below-name.ensures.value c.below-minor.ensures.value c.commit-introduced.ensures c.commit-fixed.ensures c.limit-limit.ensures
