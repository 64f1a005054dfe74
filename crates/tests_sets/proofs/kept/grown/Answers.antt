use Rattle.std.proofs.Common.{List, length, take, sym, subst}
use Rattle.osv_prim.specs.declared.event.Event.{Event}
use Rattle.osv_prim.specs.declared.oid.CommitRow.{CommitRow}
use Rattle.impact_set.specs.Standing.{StandsFor}
use Rattle.tests_sets.proofs.kept.grown.Goals as goal

pub extend-requires-2 : goal.extend-requires-2
extend-requires-2 g c =
    let kept = c.args.kept in
    subst (λ (events : List Event). StandsFor events (take (length kept.set.reached) c.in_ok-larger.larger) kept.set) (sym c.as_slice.ensures)
    (subst (λ (graph : List CommitRow). StandsFor kept.events (take (length kept.set.reached) graph) kept.set) (sym c.in_ok-larger.ensures.joined)
    (c.a_set_stands_for_the_first_rows_of_a_grown_graph.ensures kept.graph c.args.rows.now kept.events kept.set kept.stands))
