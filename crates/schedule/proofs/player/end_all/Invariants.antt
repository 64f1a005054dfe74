use Rattle.std.proofs.Common.{◌≡◌, length, map, drop}
use Rattle.std.specs.Prelude.{option_map}
use Rattle.book_model.specs.State.{State}
use Rattle.snapshot.specs.Jobs.{name}
use Rattle.schedule.specs.Machine.{EndsFrom}
use Rattle.schedule.specs.Holding.{IsHolding}
use Rattle.schedule.proofs.player.end_all.Given as goal

-- what the rest comes to, all comes to
abbrev pub invariant-loop-by : goal.invariant-loop-by
invariant-loop-by l = IsHolding l.book l.held.items × (l.book.settings ≡ l.fn.book.settings) × (length l.held.items ≡ length l.fn.held.items)
    × ((t : State) → EndsFrom l.by (drop l.by (map (λ job. option_map name job) l.held.items)) l.book t → EndsFrom 0 (map (λ job. option_map name job) l.fn.held.items) l.fn.book t)
