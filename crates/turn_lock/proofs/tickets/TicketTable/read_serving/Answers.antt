use Rattle.std.proofs.Common.{rules}
use mathlib.Core.Option.{none}
use Rattle.turn_lock.proofs.Waiting.{reads_serving}
use Rattle.turn_lock.proofs.tickets.TicketTable.read_serving.Goals as goal

pub load-requires : goal.load-requires
load-requires g c = (c.requires.id, search rules, reads_serving _ _ _ _ _ c.args.ticket none c.requires.waits.0 c.requires.waits.1 c.requires.waits.2)
