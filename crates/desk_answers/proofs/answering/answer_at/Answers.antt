use Rattle.std.proofs.Common.{List, ℕ, subst}
use Rattle.stream_body.specs.Streams.{Comes}
use Rattle.desk_answers.proofs.answering.answer_at.Goals as goal

pub returns-in-Repo : goal.returns-in-Repo
returns-in-Repo g c =
    rw c.in-Repo.is (c.repo.ensures c.args.request.body (subst (λ (body : List ℕ). Comes c.args.settings.now.commits body c.commits_in-come.result) c.as_slice.ensures c.commits_in-come.ensures))
