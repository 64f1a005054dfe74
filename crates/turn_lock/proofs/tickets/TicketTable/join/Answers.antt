use Rattle.std.proofs.Common.{rules, ap, ◌∙◌, arith}
use mathlib.Core.Option.{none}
use Rattle.turn_lock.proofs.Joining.{joins, merges}
use Rattle.turn_lock.proofs.tickets.TicketTable.join.Goals as goal

pub join_seat-requires : goal.join_seat-requires
join_seat-requires g c = let i = c.requires.idle in (c.requires.id.0, c.requires.id.1, i.1.0, search rules, joins _ _ _ _ _ _ i.0.2 i.1.2 i.1.1)

pub load-requires : goal.load-requires
load-requires g c = let j = c.join_seat.ensures in (j.0 ∙ c.requires.id.0, search rules, merges _ _ _ _ _ 0 none (omega arith) (ap (λ m. m.0.has_turn) j.2 ∙ c.requires.idle.0.2))
