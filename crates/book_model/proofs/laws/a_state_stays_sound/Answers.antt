use Rattle.book_model.proofs.Sound.{enrols-sound, imports-sound, grows-sound, pulls-sound, takes-sound, finishes-sound, gives_back-sound}
use Rattle.book_model.proofs.laws.a_state_stays_sound.Goals as goal

pub returns-clause-enrol : goal.returns-clause-enrol
returns-clause-enrol c = enrols-sound

pub returns-clause-import : goal.returns-clause-import
returns-clause-import c = imports-sound

pub returns-clause-grow : goal.returns-clause-grow
returns-clause-grow c = grows-sound

pub returns-clause-pull : goal.returns-clause-pull
returns-clause-pull c = pulls-sound (λ n. n) (λ n b p. Unit {0})

pub returns-clause-take : goal.returns-clause-take
returns-clause-take c = takes-sound (λ n. n) (λ n b p. Unit {0})

pub returns-clause-finish : goal.returns-clause-finish
returns-clause-finish c = finishes-sound

pub returns-clause-give_back : goal.returns-clause-give_back
returns-clause-give_back c = gives_back-sound
