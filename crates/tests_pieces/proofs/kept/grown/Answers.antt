use Rattle.std.proofs.Common.{◌≡◌, List, length, take, ap, sym, subst, ◌∙◌}
use Rattle.std.specs.Arc.{arc_value}
use Rattle.osv_prim.specs.Graphs.{joined}
use Rattle.osv_prim.specs.declared.oid.CommitRow.{CommitRow}
use Rattle.impact_set.specs.Standing.{Known, StandsFor}
use Rattle.piece_work.specs.Works.{events_at}
use Rattle.tests_pieces.proofs.kept.grown.Goals as goal

pub work-requires : goal.work-requires
work-requires g c =
    let events = events_at (arc_value c.args.kept.advisory) 0 0 in
    let set : Known = arc_value c.args.kept.set in
    let whole : arc_value c.in_ok-shared.field-0 ≡ joined (arc_value c.args.kept.graph) c.args.rows.now =
    c.in_ok-shared.ensures ∙ c.in_ok-larger.ensures.joined ∙ ap (λ (g : List CommitRow). joined g c.args.rows.now) c.deref.ensures
    in
    record {
      extend = λ e.
          subst (λ (g : List CommitRow). StandsFor events (take (length set.reached) g) set) (sym whole)
          (c.a_set_stands_for_the_first_rows_of_a_grown_graph.ensures (arc_value c.args.kept.graph) c.args.rows.now events set c.args.kept.stands);
      carry = λ e. absurd cc;
    }
