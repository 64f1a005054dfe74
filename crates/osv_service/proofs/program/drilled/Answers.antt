use Rattle.std.proofs.Common.{inl, refl, ◌∙◌}
use Rattle.drill.specs.Drilled.{drilled}
use Rattle.osv_service.proofs.Ending.{prints_by}
use Rattle.osv_service.proofs.program.drilled.Goals as goal

pub returns-in-Ok : goal.returns-in-Ok
returns-in-Ok g c =
    prints_by _ 0 c.as_bytes.result.now (drilled c.args.seed c.args.size) _ _ _ _ (inl refl) (c.as_bytes.ensures.value ∙ c.in-Ok.ensures)
    c.write_out.ensures.whole c.write_out.ensures.status c.write_out.ensures.front c.write_out.ensures.fault
