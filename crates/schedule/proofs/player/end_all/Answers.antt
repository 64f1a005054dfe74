use Rattle.std.proofs.Common.{◌<◌, List, length, ap, ◌∙◌, arith}
use Rattle.std.specs.Prelude.{Option, None}
use Rattle.std.proofs.lemmas.List.{length-set}
use Rattle.snapshot.specs.declared.job.Job.{Job}
use Rattle.schedule.proofs.Playing.{ends-rest}
use Rattle.schedule.proofs.player.end_all.Goals as goal

pub loop-by-preserved : goal.loop-by-preserved
loop-by-preserved c =
    let lt : c.loop-by.by < length c.loop-by.held.items = omega (arith, c.loop-by-test.true, c.len-by-end.ensures, c.args.held.now.ok.0, c.loop-by.invariant.2) in (
      c.end.ensures.holding,
      c.end.ensures.settings ∙ c.loop-by.invariant.1,
      ap (λ (xs : List (Option Job)). length xs) c.end.ensures.left ∙ length-set c.loop-by.held.items c.loop-by.by None ∙ c.loop-by.invariant.2,
      λ t rest. c.loop-by.invariant.3 t (ends-rest c.loop-by.held.items c.end.new.held.items c.loop-by.by c.loop-by.book c.end.new.book t lt c.end.ensures.left c.end.ensures.ends rest),
    )
