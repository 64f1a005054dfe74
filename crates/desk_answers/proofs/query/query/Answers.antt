use Rattle.std.proofs.Common.{◌≡◌, Some, rules}
use Rattle.std.specs.Prelude.{Ok}
use Rattle.query_json.specs.Queries.{query}
use Rattle.session_model.specs.Looks.{least_of}
use Rattle.desk_answers.proofs.Querying.{query-shown}
use Rattle.desk_answers.proofs.query.query.Goals as goal

pub returns-in-Ok : goal.returns-in-Ok
returns-in-Ok g c =
    let asked : least_of c.args.request.now.min ≡ Some c.in-Some.least = search rules in
    let read : query c.args.request.now.body ≡ Ok c.in-Ok.query = search rules in
    query-shown (g.D.Desk.caller c.args.desk.now) (g.D.Desk.caller c.answer_query.new.desk) c.args.closes c.args.size c.in-Some.least c.args.request.now c.in-Ok.query c.answer_query.result c.requires asked read c.answer_query.ensures
