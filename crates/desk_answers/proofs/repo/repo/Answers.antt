use Rattle.std.proofs.Common.{◌≡◌, Some, subst, rules}
use Rattle.std.specs.Prelude.{Result, Ok}
use Rattle.osv_prim.specs.declared.oid.CommitRow.{CommitRow}
use Rattle.http_wire.specs.Requests.{with_bytes}
use Rattle.session_model.specs.Answers.{commits_in}
use Rattle.session_model.specs.Routes.{key_of}
use Rattle.desk_answers.proofs.Joining.{commits-joined}
use Rattle.desk_answers.proofs.repo.repo.Goals as goal

pub returns-in-Ok-come : goal.returns-in-Ok-come
returns-in-Ok-come g c = λ body come.
    let named : key_of c.args.request.now.query ≡ Some c.in-Some.key = search rules in
    let are : commits_in c.args.most body ≡ Ok c.as_slice-in-Ok-come.result.now = search (rules, come) in
    commits-joined (g.D.Desk.caller c.args.desk.now) (g.D.Desk.caller c.join.new.desk) c.args.closes (with_bytes c.args.request.now body) c.in-Some.key c.args.most c.as_slice-in-Ok-come.result.now c.join.result named are c.requires c.join.ensures
