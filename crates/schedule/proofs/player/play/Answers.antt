use Rattle.std.proofs.Common.{ℕ, ap, ◌∙◌}
use Rattle.snapshot.specs.declared.job.Job.{Job}
use Rattle.schedule.specs.Machine.{none_of}
use Rattle.schedule.specs.Holding.{machine}
use Rattle.schedule.proofs.Holding.{none-holding}
use Rattle.schedule.proofs.Playing.{begins, played-ok, played-err, played-none}
use Rattle.schedule.proofs.player.play.Goals as goal

pub returns-clause-ok : goal.returns-clause-ok
returns-clause-ok g c =
    played-ok c.play_all-played.result (λ a. a.items) c.args.list.now c.args.book.now c.end_all.new.book (machine c.play_all-played.new.book c.play_all-played.new.held.items) (machine c.args.book.now c.in_ok-held.held.items)
    (begins c.args.book.now c.in_ok-held.held.items c.callers.result c.callers.ensures c.in_ok-held.ensures) c.play_all-played.ensures.ok c.end_all.ensures.ends

pub returns-clause-err : goal.returns-clause-err
returns-clause-err g c =
    played-err c.play_all-played.result c.args.list.now c.args.book.now c.end_all.new.book (machine c.play_all-played.new.book c.play_all-played.new.held.items) (machine c.args.book.now c.in_ok-held.held.items)
    (begins c.args.book.now c.in_ok-held.held.items c.callers.result c.callers.ensures c.in_ok-held.ensures) c.play_all-played.ensures.err c.end_all.ensures.ends

pub returns-in_err-held-clause-err : goal.returns-in_err-held-clause-err
returns-in_err-held-clause-err g c = played-none c.from_residual.result c.args.list.now c.args.book.now

pub play_all-played-requires-clause-holding : goal.play_all-played-requires-clause-holding
play_all-played-requires-clause-holding g c = none-holding c.args.book.now c.in_ok-held.held.items (c.in_ok-held.ensures ∙ ap (λ (n : ℕ). none_of {X = Job} n) c.callers.ensures)
