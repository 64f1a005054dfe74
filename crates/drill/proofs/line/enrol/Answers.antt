use Rattle.std.proofs.Common.{[], ◌∷◌}
use Rattle.schedule.specs.declared.step.Step.TheVariants.{Enrol}
use Rattle.drill.proofs.Having.{has-same}
use Rattle.drill.proofs.Quiet.{played-same}
use Rattle.drill.proofs.line.enrol.Goals as goal

pub returns-clause-has : goal.returns-clause-has
returns-clause-has g c a ks rows h =
    has-same c.args.book.now c.one.new.book a ks rows
    (played-same (Enrol ∷ []) c.args.book.now (c.in_ok-_number._number ∷ []) c.one.new.book (tt, tt) c.in_ok-_number.ensures.played) h
