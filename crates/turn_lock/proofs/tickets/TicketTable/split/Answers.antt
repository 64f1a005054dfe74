use Rattle.std.proofs.Common.{rules}
use Rattle.turn_lock.proofs.Joining.{splits}
use Rattle.turn_lock.proofs.tickets.TicketTable.split.Goals as goal

pub split_seat-requires : goal.split_seat-requires
split_seat-requires g c = (c.requires.id, search rules, splits _ _ _ _)
