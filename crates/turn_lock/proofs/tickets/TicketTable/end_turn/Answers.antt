use Rattle.std.proofs.Common.{rules, ap, ◌∙◌}
use mathlib.Core.Option.{none}
use Rattle.turn_lock.specs.Rule.{with_seen, with_callers}
use Rattle.turn_lock.proofs.Ending.{adds_as, numbers_as, raises_as}
use Rattle.turn_lock.proofs.tickets.TicketTable.end_turn.Goals as goal

pub store-requires : goal.store-requires
store-requires g c =
    let p = c.put_back.ensures in
    (p.id ∙ c.requires.id, search rules, adds_as _ _ _ _ _ c.args.seat.now.me.0 c.args.state c.args.by _ none p.holds c.requires.turn c.requires.may c.length-length.ensures)

pub store-requires-2 : goal.store-requires-2
store-requires-2 g c =
    let p = c.put_back.ensures in
    let s = c.store.ensures in
    let is = s.2 c.args.state (ap (λ m. m.1) p.holds) ∙ ap (λ m. (with_seen m.0 (g.B.Stored.entries c.args.state), m.1)) p.holds in
    (s.0 ∙ p.id ∙ c.requires.id, search rules, numbers_as _ _ _ _ _ c.args.seat.now.me.0 c.args.state c.args.by _ none is c.requires.turn c.requires.may c.callers-callers.ensures)

pub fetch_add-requires : goal.fetch_add-requires
fetch_add-requires g c =
    let p = c.put_back.ensures in
    let s = c.store.ensures in
    let t = c.store-2.ensures in
    let is = s.2 c.args.state (ap (λ m. m.1) p.holds) ∙ ap (λ m. (with_seen m.0 (g.B.Stored.entries c.args.state), m.1)) p.holds in
    let more = t.2 ∙ ap (λ n. (with_callers c.store.new.seat.me.0 n, c.store.new.seat.me.1)) c.callers-callers.ensures ∙ ap (λ m. (with_callers m.0 (g.B.Stored.caller_count c.args.state), m.1)) is in
    (t.0 ∙ s.0 ∙ p.id ∙ c.requires.id, search rules, raises_as _ _ _ _ _ c.args.seat.now.me.0 c.args.state c.args.by none more c.requires.turn c.requires.may)
