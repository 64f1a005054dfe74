use Rattle.std.specs.Arc.{arc_value}
use Rattle.desk_calls.proofs.Growing.{repo-is}
use Rattle.desk_calls.proofs.repos.repo_of.Goals as goal

pub returns : goal.returns
returns g c = repo-is (λ a. arc_value a) c.args.key.now c.repo.result (g.D.Desk.caller c.args.desk.now) (g.D.Desk.caller c.repo.new.self) c.repo.ensures.acts c.repo.ensures.counts
