use Rattle.std.proofs.Common.{◌≡◌}
use Rattle.book_model.proofs.Own.{imports-adds, repo-adds, look-adds}
use Rattle.book_model.proofs.laws.looking_adds_nothing.Goals as goal

pub returns-clause-imports : goal.returns-clause-imports
returns-clause-imports c = imports-adds

pub returns-clause-repo : goal.returns-clause-repo
returns-clause-repo c = repo-adds (λ g. g)

pub returns-clause-look : goal.returns-clause-look
returns-clause-look c = look-adds (λ x p. x ≡ p)
