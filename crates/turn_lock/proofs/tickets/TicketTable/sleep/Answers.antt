use Rattle.std.proofs.Common.{rules, ◌∙◌, ◌+◌, ◌-◌, ◌%◌, ◌^◌}
use Rattle.turn_lock.proofs.Waiting.{counts_sleepers}
use Rattle.turn_lock.proofs.tickets.TicketTable.sleep.Goals as goal

pub fetch_add-requires : goal.fetch_add-requires
fetch_add-requires g c = (c.requires.id, search rules, counts_sleepers _ _ _ _ _ (λ n. (n + 1) % 2 ^ 64))

pub fetch_sub-requires : goal.fetch_sub-requires
fetch_sub-requires g c = (c.fetch_add.ensures.0 ∙ c.requires.id, search rules, counts_sleepers _ _ _ _ _ (λ n. (n + (2 ^ 64 - 1)) % 2 ^ 64))
