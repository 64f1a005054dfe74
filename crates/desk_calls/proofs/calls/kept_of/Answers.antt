use Rattle.std.proofs.Common.{rules, ◌∷◌, []}
use Rattle.std.specs.Prelude.{Err}
use Rattle.desk_calls.proofs.Events.{kept-is, looked}
use Rattle.desk_calls.proofs.calls.kept_of.Goals as goal

pub returns-in-Some : goal.returns-in-Some
returns-in-Some g c =
    kept-is c.args.number c.in-Ok-look.newest c.look.new.found.items c.pop.new.self.items c.in-Some.kept (g.D.Desk.caller c.args.desk.now) (g.D.Desk.caller c.look.new.self) c.in-Ok-look.ensures.acts c.in-Ok-look.ensures.counts (search rules)

pub returns : goal.returns
returns g c =
    (looked (c.args.number ∷ []) (Err c.in-Err.field-0) c.look.new.found.items (g.D.Desk.caller c.args.desk.now) (g.D.Desk.caller c.look.new.self) c.in-Err.ensures.acts c.in-Err.ensures.counts).still
