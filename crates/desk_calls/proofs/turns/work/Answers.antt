use Rattle.std.proofs.Common.{subst}
use Rattle.book_model.specs.Jobs.{JobName}
use Rattle.snapshot.specs.Jobs.{outcome}
use Rattle.desk_calls.specs.Calls.{HandedIn}
use Rattle.desk_calls.proofs.Pieces.{planned-few}
use Rattle.desk_calls.proofs.turns.work.Goals as goal

pub returns-in-Ok : goal.returns-in-Ok
returns-in-Ok g c =
    let old = g.D.Desk.caller c.args.desk.now in
    record {
      cells = (outcome c.in-Ok.finished).cells;
      planned = planned-few c.in-Ok.finished old.front (c.in-Ok.ensures.holds old.front c.requires);
      handed = subst (λ (j : JobName). HandedIn j (outcome c.in-Ok.finished).cells old (g.D.Desk.caller c.finish_of.new.desk)) c.in-Ok.ensures.same c.finish_of.ensures;
    }
