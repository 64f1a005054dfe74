use Rattle.std.proofs.Common.{rules, ℕ, Option, Some, None, Ok, subst}
use Rattle.std.specs.Prelude.{IsSomeAnd}
use Rattle.book_model.specs.State.{State, Build}
use Rattle.book_model.specs.Steps.{GoesOut, build_for}
use Rattle.snapshot.specs.declared.job.Job.{Job}
use Rattle.snapshot.specs.Jobs.{name, IsJob}
use Rattle.book.specs.Handing.{HandsOut}
use Rattle.book.proofs.ledger.Book.pull.Goals as goal

-- a job of the build that is open is one of the build that a pull asks for
for-open : (by : ℕ) (old new : State) (job : Job) (o : Option Build) → IsSomeAnd o (λ b. GoesOut name IsJob by old b job new) → GoesOut name IsJob by old (build_for old o) job new
for-open by old new job None goes = absurd goes
for-open by old new job (Some b) goes = goes

pub returns-in-Ok-Some : goal.returns-in-Ok-Some
returns-in-Ok-Some c = (
  search rules,
  for-open c.args.by c.args.self.now c.hand_out.new.self c.in-Ok-Some.job c.args.self.now.build
      (subst (λ (o : Option Job). HandsOut c.args.by c.args.self.now (Ok o) c.hand_out.new.self) c.in-Ok-Some.field-0-is c.in-Ok-Some.ensures),
)
