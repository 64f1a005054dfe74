use Rattle.std.proofs.Common.{rules, refl}
use mathlib.Core.Option.{none}
use Rattle.turn_lock.proofs.Waiting.{takes_ticket}
use Rattle.turn_lock.proofs.tickets.TicketTable.try_take_ticket.Goals as goal

pub compare_exchange-found-requires : goal.compare_exchange-found-requires
compare_exchange-found-requires g c = (c.requires.id, search rules, takes_ticket _ _ _ _ _ _ _ none c.requires.idle.1 c.requires.idle.2 c.requires.room refl)
