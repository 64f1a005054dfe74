use Rattle.std.proofs.Common.{false, Ok, sym, ◌∙◌}
use Rattle.osv_prim.specs.Graphs.{id_at}
use Rattle.git_range.proofs.Affecting.{value_by_walks, unread, outside, inside}
use Rattle.git_range.proofs.affected.affects.Goals as goal

pub returns-then-not-all_read-clause-value : goal.returns-then-not-all_read-clause-value
returns-then-not-all_read-clause-value g c =
    let commit = id_at c.args.graph.now c.args.number in
    value_by_walks c.args.graph.now c.args.events.now commit {E = Unit {0}} (Ok false) c.len.ensures.legal
    (unread c.args.graph.now c.args.events.now commit (sym c.all_read.ensures ∙ c.if-not-all_read.true))

pub returns-then-not-within-clause-value : goal.returns-then-not-within-clause-value
returns-then-not-within-clause-value g c =
    let commit = id_at c.args.graph.now c.args.number in
    value_by_walks c.args.graph.now c.args.events.now commit {E = Unit {0}} (Ok false) c.len.ensures.legal
    (outside c.args.graph.now c.args.events.now commit c.in_ok-within.within c.in_ok-within.ensures.within c.if-not-within.true)

pub returns-clause-value : goal.returns-clause-value
returns-clause-value g c =
    let commit = id_at c.args.graph.now c.args.number in
    value_by_walks c.args.graph.now c.args.events.now commit c.is_reached.result c.len.ensures.legal
    (inside c.args.graph.now c.args.events.now commit c.in_ok-within.within c.is_reached.result (sym c.all_read.ensures ∙ c.if-not-all_read.false)
    c.in_ok-within.ensures.within c.if-not-within.false c.is_reached.ensures.reached)
