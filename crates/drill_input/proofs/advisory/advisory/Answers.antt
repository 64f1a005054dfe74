use Rattle.std.proofs.Common.{◌∙◌, ap}
use Rattle.rand_pcg.specs.Lcg.{Lcg}
use Rattle.drill_input.specs.declared.advisory.Chosen.{Chosen}
use Rattle.drill_input.proofs.Drawing.{read-drawn}
use Rattle.drill_input.proofs.advisory.advisory.Goals as goal

pub returns-in-Ok-clause-read : goal.returns-in-Ok-clause-read
returns-in-Ok-clause-read c =
    read-drawn c.args.size c.args.number c.args.draws.now c.picks-picks.new.draws c.picks-picks.result c.as_slice.result.now c.in-Ok.record c.picks-picks.ensures
    (c.as_slice.ensures.value ∙ c.in_ok-text.ensures) c.in-Ok.ensures.value

pub returns-in-Ok-clause-draws : goal.returns-in-Ok-clause-draws
returns-in-Ok-clause-draws c = ap (λ (x : Chosen × Lcg). x.1) c.picks-picks.ensures

pub returns-clause-draws : goal.returns-clause-draws
returns-clause-draws c = ap (λ (x : Chosen × Lcg). x.1) c.picks-picks.ensures
