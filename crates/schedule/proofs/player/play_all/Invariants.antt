use Rattle.std.proofs.Common.{◌≡◌, ◌≤◌, length, take}
use Rattle.std.specs.Prelude.{vec_len, vec_capacity}
use Rattle.schedule.specs.Machine.{Plays}
use Rattle.schedule.specs.Holding.{machine, IsHolding}
use Rattle.schedule.proofs.player.play_all.Given as goal

abbrev pub invariant-loop-step : goal.invariant-loop-step
invariant-loop-step g l = IsHolding l.book l.held.items × (l.book.settings ≡ l.settings) × Plays (take l.step-index l.list) (machine l.fn.book l.fn.held.items) l.answers.items (machine l.book l.held.items)
    × (vec_len l.answers ≡ l.step-index) × (length l.list ≤ vec_capacity l.answers)
