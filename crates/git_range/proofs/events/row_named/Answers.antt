use Rattle.std.proofs.Common.{sym, ◌∙◌}
use Rattle.commit_graph.proofs.Rows.{found}
use Rattle.git_range.proofs.Naming.{names_row}
use Rattle.git_range.proofs.events.row_named.Goals as goal

pub returns-clause-named : goal.returns-clause-named
returns-clause-named c =
    names_row c.args.graph.now c.args.kind c.args.event.now c.in_ok-oid_of.field-0 c.number_of.result (sym c.is_kind.ensures ∙ c.if-not-is_kind.false)
    (sym c.oid_of.ensures ∙ c.in_ok-oid_of.was) c.number_of.ensures.legal c.number_of.ensures.found
    (λ n is. found c.args.graph.now c.in_ok-oid_of.field-0 n (sym c.number_of.ensures.number ∙ is))
