use Rattle.book_model.proofs.Own.{refused-import-adds, refused-grow-adds, pull-adds, take-adds, going-adds, strange-adds, give_back-adds}
use Rattle.book_model.proofs.laws.other_calls_add_nothing.Goals as goal

pub returns-clause-refused_import : goal.returns-clause-refused_import
returns-clause-refused_import c = refused-import-adds

pub returns-clause-refused_grow : goal.returns-clause-refused_grow
returns-clause-refused_grow c = refused-grow-adds

pub returns-clause-pull : goal.returns-clause-pull
returns-clause-pull c = pull-adds (λ n. n) (λ n b p. Unit {0})

pub returns-clause-take : goal.returns-clause-take
returns-clause-take c = take-adds (λ n. n) (λ n b p. Unit {0})

pub returns-clause-going : goal.returns-clause-going
returns-clause-going c = going-adds

pub returns-clause-strange : goal.returns-clause-strange
returns-clause-strange c = strange-adds

pub returns-clause-give_back : goal.returns-clause-give_back
returns-clause-give_back c = give_back-adds
