use Rattle.osv_prim.specs.Graphs.{joined}
use Rattle.impact_set.proofs.Prefixes.{joined-grows, stands-first}
use Rattle.impact_set.proofs.laws.a_set_stands_for_the_first_rows_of_a_grown_graph.Goals as goal

pub returns : goal.returns
returns c graph rows events known stands =
    let more = joined-grows graph rows in
    stands-first events graph (joined graph rows) known stands more.0 more.1
