use Rattle.std.proofs.Common.{◌≡◌, true, List}
use Rattle.history.specs.declared.past.Past.{Past}
use Rattle.book_model.proofs.Lasting.{call-lasts, grow-lasts, pull-lasts, finish-lasts, give_back-lasts}
use Rattle.book_model.specs.Jobs.{JobName, Outcome}
use Rattle.book_model.proofs.laws.conditions_last.Goals as goal

pub returns-clause-call : goal.returns-clause-call
returns-clause-call c = call-lasts

pub returns-clause-grow : goal.returns-clause-grow
returns-clause-grow c = grow-lasts

pub returns-clause-pull : goal.returns-clause-pull
returns-clause-pull c = pull-lasts

pub returns-clause-finish : goal.returns-clause-finish
returns-clause-finish c = λ holds. finish-lasts (λ (o : Outcome). o) (λ (o : Outcome) (b : List Past) (p : List Past). holds o b p ≡ true)

pub returns-clause-give_back : goal.returns-clause-give_back
returns-clause-give_back c = λ holds. give_back-lasts (λ (j : JobName). j) (λ (j : JobName) (b : List Past) (p : List Past). holds j b p ≡ true)
