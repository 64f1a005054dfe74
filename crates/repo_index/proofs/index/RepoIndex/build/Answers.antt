use Rattle.std.proofs.Common.{[]}
use Rattle.repo_index.proofs.index.RepoIndex.build.Goals as goal

pub returns : goal.returns
returns c = λ p is all. c.of_numbers.ensures p (c.in_ok-own.ensures.numbers p [] is all (λ i j at lt. absurd cc) tt) all
