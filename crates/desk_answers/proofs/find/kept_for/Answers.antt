use Rattle.desk_answers.proofs.Showing.{shown-kept}
use Rattle.desk_answers.proofs.find.kept_for.Goals as goal

pub returns : goal.returns
returns g c =
    let old = g.D.Desk.caller c.args.desk.now in
    let new = g.D.Desk.caller c.kept_of.new.desk in
    shown-kept old new c.args.least c.in-Ok.found.newest c.args.number c.told_of.result c.in-Ok.ensures.quiet c.in-Ok.ensures.now_is c.if-found-least.false (c.told_of.ensures old.settings.keep new.front c.in-Ok.ensures.finds)
