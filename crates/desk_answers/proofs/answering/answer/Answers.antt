use Rattle.desk_answers.proofs.Streams.{gives-repo, gives-wrong}
use Rattle.desk_answers.proofs.answering.answer.Goals as goal

pub returns-then-is_repo : goal.returns-then-is_repo
returns-then-is_repo g c = λ q is.
    gives-repo (g.D.Desk.caller c.args.desk.now) (g.D.Desk.caller c.repo.new.desk) c.args.closes c.args.settings.now.commits c.args.request q c.args.come c.in-Some.come c.route_of-route.result c.repo.result c.in-Some.is c.route_of-route.ensures (c.is_repo.ensures.yes c.if-is_repo.true) c.repo.ensures is

pub returns : goal.returns
returns g c = λ q is.
    gives-wrong (g.D.Desk.caller c.args.desk.now) (g.D.Desk.caller c.answer_at-2.new.desk) c.args.closes c.args.settings.now.commits c.args.request q c.args.come c.in-Some.come c.route_of-route.result c.answer_at-2.result c.in-Some.is c.route_of-route.ensures (c.is_repo.ensures.no c.if-is_repo.false) c.answer_at-2.ensures is
