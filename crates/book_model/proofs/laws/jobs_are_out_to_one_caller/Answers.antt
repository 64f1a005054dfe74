use Rattle.book_model.proofs.Held.{pulls-out, never-out, out-owned, spent}
use Rattle.book_model.proofs.laws.jobs_are_out_to_one_caller.Goals as goal

pub returns-clause-some : goal.returns-clause-some
returns-clause-some c = pulls-out (λ n. n) (λ n b p. Unit {0})

pub returns-clause-never : goal.returns-clause-never
returns-clause-never c = never-out (λ n. n) (λ n b p. Unit {0})

pub returns-clause-owned : goal.returns-clause-owned
returns-clause-owned c = out-owned (λ n. n) (λ n b p. Unit {0})

pub returns-clause-spent : goal.returns-clause-spent
returns-clause-spent c = spent
