use Rattle.std.proofs.Common.{subst}
use Rattle.turn_lock.specs.Rule.{IsServed}
use Rattle.turn_lock.proofs.tickets.TicketTable.wait.Goals as goal

pub returns-then-found-ticket-clause-served : goal.returns-then-found-ticket-clause-served
returns-then-found-ticket-clause-served g c =
    let b = g.B.Stored in
    subst (λ m. IsServed record { entries = b.entries; owner = b.owner; caller_count = b.caller_count; fixed = b.fixed } m.0 c.read_serving-found.new.seat.me) c.loop.invariant.1 (c.read_serving-found.ensures.served c.if-found-ticket.true)
