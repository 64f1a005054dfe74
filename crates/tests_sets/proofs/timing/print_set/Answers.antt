use Rattle.std.proofs.Common.{List, length, take, sym, subst}
use Rattle.osv_prim.specs.declared.oid.CommitRow.{CommitRow}
use Rattle.impact_set.specs.Standing.{StandsFor}
use Rattle.tests_sets.proofs.timing.print_set.Goals as goal

pub one_run-requires : goal.one_run-requires
one_run-requires g c known stands =
    subst (λ (graph : List CommitRow). StandsFor c.args.events.now (take (length known.reached) graph) known) (sym c.in-Ok.ensures.joined)
    (c.a_set_stands_for_the_first_rows_of_a_grown_graph.ensures c.args.graph.now c.args.more.now c.args.events.now known stands)
