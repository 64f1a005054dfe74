use Rattle.std.proofs.Common.{rules, ◌≡◌, ◌+◌, ◌≤◌, length, ap, ◌∙◌, arith}
use Rattle.std.proofs.lemmas.List.{take_all}
use Rattle.drill.specs.Drilled.{commit_hits}
use Rattle.drill.proofs.Counting.{no-commit, commit-more}
use Rattle.drill.proofs.asking.count_commits.Goals as goal

pub loop-commit-init : goal.loop-commit-init
loop-commit-init g c = (c.requires.settings, c.requires.published, λ a rows h. (h, no-commit a rows))

pub loop-commit-preserved : goal.loop-commit-preserved
loop-commit-preserved g c =
    let now : c.in_ok-sum.sum ≡ c.loop-commit.sum + c.in_ok-hits.hits = search rules in (
      c.count.ensures.settings ∙ c.loop-commit.invariant.0,
      c.in_ok-hits.ensures.published,
      λ a rows h.
          let before = c.loop-commit.invariant.2 a rows h in
          let found = c.in_ok-hits.ensures.has a rows before.0 in
          (found.0, commit-more c.args.commits.now c.loop-commit.commit-index c.commit-item.result c.loop-commit.sum c.in_ok-hits.hits c.in_ok-sum.sum a rows c.loop-commit-test.true c.commit-item.is before.1 found.1 now),
    )

pub returns-clause-has : goal.returns-clause-has
returns-clause-has g c a rows h =
    let before = c.loop-commit.invariant.2 a rows h in
    let end : length c.args.commits.now ≤ c.loop-commit.commit-index = search (rules, arith) in
    (before.0, before.1 ∙ ap (λ xs. commit_hits xs a rows) (take_all c.loop-commit.commit-index c.args.commits.now end))
