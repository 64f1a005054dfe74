use Rattle.std.proofs.Common.{ℕ, List, Option, length, subst}
use Rattle.std.proofs.lemmas.Result.{err_from_is_err_and}
use Rattle.ask.specs.Stops.{NamesRepo}
use Rattle.ask.proofs.Streaming.{no_repo, repo_stops, the_repo}
use Rattle.ask.proofs.commits.repos_of.Goals as goal

pub returns-in_err-graph-in-Some-clause-stops : goal.returns-in_err-graph-in-Some-clause-stops
returns-in_err-graph-in-Some-clause-stops g c =
    let r = c.args.reader.now in
    let lo = g.S.Source.left c.args.source.now in
    let p = err_from_is_err_and c.from_residual.result c.from_residual.ensures.1 in
    rw (p.1, p.2) (λ input parts ok n.
    repo_stops input parts c.in-Some.key r c.graph_behind.new.reader lo (g.S.Source.left c.graph_behind.new.source) c.in_err-graph-in-Some.field-0.0 ok
    (subst (λ (k : Option (List ℕ)). NamesRepo input parts.repo k r lo) c.in-Some.is n) c.in_err-graph-in-Some.ensures.stops c.in_err-graph-in-Some.ensures.limit)

pub returns-in-None-clause-repos : goal.returns-in-None-clause-repos
returns-in-None-clause-repos g c = λ input parts n.
    let none = subst (λ (k : Option (List ℕ)). NamesRepo input parts.repo k c.args.reader.now (g.S.Source.left c.args.source.now)) c.in-None.is n in
    (rw c.new.ensures.items (no_repo parts.repo none.0), none.1)

pub returns-in_ok-one_repo-in-Some-clause-repos : goal.returns-in_ok-one_repo-in-Some-clause-repos
returns-in_ok-one_repo-in-Some-clause-repos g c = λ input parts n.
    let some = subst (λ (k : Option (List ℕ)). NamesRepo input parts.repo k c.args.reader.now (g.S.Source.left c.args.source.now)) c.in-Some.is n in
    let made = c.in_ok-graph-in-Some.ensures.graph some.1 (length input) some.4 in
    (rw c.in_ok-one_repo-in-Some.ensures (the_repo parts.repo some.0 some.1 c.in-Some.key c.in_ok-graph-in-Some.graph some.2 some.3 made.0), made.1)
