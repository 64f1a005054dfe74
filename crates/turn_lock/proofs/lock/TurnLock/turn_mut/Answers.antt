use Rattle.std.proofs.Common.{rules, ap, sym, ◌∙◌, subst}
use Rattle.turn_lock.specs.Turn.{known_callers}
use Rattle.turn_lock.proofs.Turns.{begins, counted, turned}
use Rattle.turn_lock.proofs.lock.TurnLock.turn_mut.Goals as goal

pub act-answer-requires : goal.act-answer-requires
act-answer-requires g c =
    let v = c.pass.inside.seat.me.0 in
    let s = c.take_out-state.result in
    let needs = subst (λ (p : _). g.C.Call.needs c.args.call c.args.by p.seen (known_callers p.number c.args.by)) (sym c.pass.view_is) c.requires.needs in
    g.met.C.Call.lasts c.args.call c.args.by v.seen (g.B.Stored.entries s) (known_callers v.number c.args.by) (g.B.Stored.caller_count s) needs
    (begins _ v _ _ _ s c.take_ticket-ticket.ensures.taken c.wait.ensures.served c.take_out-state.ensures.value)
    (counted _ v _ _ _ s c.take_ticket-ticket.ensures.taken c.wait.ensures.served c.take_out-state.ensures.value c.args.by)

pub returns : goal.returns
returns g c =
    let a = c.act-answer.ensures in
    let i = c.pass.invariant in
    turned _ c.pass.inside.seat.me.0 _ _ _ c.take_out-state.result c.take_ticket-ticket.ensures.taken c.wait.ensures.served c.take_out-state.ensures.value
    _ _ c.args.by _ _ _ c.act-answer.new.state c.pass.inside.last _ c.take_out-state.new.seat.me c.end_turn.new.seat.me i.1.0 c.pass.view_is i.1.1 (ap (λ m. m.0) c.take_out-state.ensures.out) (ap (λ m. m.0) c.end_turn.ensures.ended)
    (c.end_turn.ensures.id ∙ c.take_out-state.ensures.id ∙ c.wait.ensures.id ∙ c.take_ticket-ticket.ensures.id)
    a.does a.grows a.counts a.fixed (search rules)
