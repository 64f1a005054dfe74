use Rattle.book_model.proofs.Growing.{enrols-keeps, imports-keeps, grows-keeps, pulls-keeps, takes-keeps, finishes-keeps, gives_back-keeps}
use Rattle.book_model.proofs.laws.steps_only_add.Goals as goal

pub returns-clause-enrol : goal.returns-clause-enrol
returns-clause-enrol c = enrols-keeps

pub returns-clause-import : goal.returns-clause-import
returns-clause-import c = imports-keeps

pub returns-clause-grow : goal.returns-clause-grow
returns-clause-grow c = grows-keeps

pub returns-clause-pull : goal.returns-clause-pull
returns-clause-pull c = pulls-keeps (λ n. n) (λ n b p. Unit {0})

pub returns-clause-take : goal.returns-clause-take
returns-clause-take c = takes-keeps (λ n. n) (λ n b p. Unit {0})

pub returns-clause-finish : goal.returns-clause-finish
returns-clause-finish c = finishes-keeps

pub returns-clause-give_back : goal.returns-clause-give_back
returns-clause-give_back c = gives_back-keeps
