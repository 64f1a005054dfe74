use Rattle.std.specs.Prelude.{Err}
use Rattle.desk_calls.proofs.Events.{all-are, looked}
use Rattle.desk_calls.proofs.calls.find_all.Goals as goal

pub returns-in-Ok-look : goal.returns-in-Ok-look
returns-in-Ok-look g c =
    all-are c.args.numbers.now c.in-Ok-look.newest c.look.new.found.items (g.D.Desk.caller c.args.desk.now) (g.D.Desk.caller c.look.new.self) c.in-Ok-look.ensures.acts c.in-Ok-look.ensures.counts

pub returns-in-Err : goal.returns-in-Err
returns-in-Err g c =
    (looked c.args.numbers.now (Err c.in-Err.field-0) c.look.new.found.items (g.D.Desk.caller c.args.desk.now) (g.D.Desk.caller c.look.new.self) c.in-Err.ensures.acts c.in-Err.ensures.counts).still
