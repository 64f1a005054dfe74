use Rattle.desk_answers.proofs.Showing.{shows-not-yet}
use Rattle.desk_answers.proofs.batch.answer_batch.Goals as goal

pub returns-then-newest-least : goal.returns-then-newest-least
returns-then-newest-least g c =
    let old = g.D.Desk.caller c.args.desk.now in
    let new = g.D.Desk.caller c.find_all.new.desk in
    shows-not-yet old new c.args.closes c.args.size c.args.least c.in-Ok.found.newest.number c.args.queries.now c.refused.result c.in-Ok.ensures.quiet c.in-Ok.ensures.now_is c.if-newest-least.true c.refused.ensures
