use Rattle.std.proofs.Common.{◌≡◌, ◌++◌, List, [], false, take, arith, ap, sym, ◌∙◌}
use Rattle.std.proofs.lemmas.Option.{get_or_from_slice_get}
use Rattle.osv_prim.specs.declared.oid.CommitRow.{CommitRow}
use Rattle.osv_prim.specs.Graphs.{ids, has}
use Rattle.commit_graph.proofs.Parts.{absent_next, rows_next, id_new}
use Rattle.commit_graph.proofs.segment.Segment.with_rows.Goals as goal

pub loop-index-preserved : goal.loop-index-preserved
loop-index-preserved c =
    let at = sym (get_or_from_slice_get c.args.other.now.rows c.loop-index.index c.row.result.now c.row.result.now c.row.ensures) in
    let absent : has c.loop-index.rows.items c.in_ok-row.row.oid ≡ false =
    ap (λ (g : List CommitRow). has g c.in_ok-row.row.oid) c.loop-index.invariant.rows
    ∙ ap (λ (r : CommitRow). has (c.args.self.rows ++ take c.loop-index.index c.args.other.now.rows) r.oid) c.in_ok-row.ensures
    ∙ absent_next c.args.self.rows c.args.other.now.rows c.loop-index.index c.row.result.now (omega (arith, c.loop-index-test.true, c.len-index-end.ensures.rows)) at c.requires
    in
    record {
      rows =
          c.in_ok-push-2.ensures.items
          ∙ rows_next c.args.self.rows c.args.other.now.rows c.loop-index.rows.items c.loop-index.index c.in_ok-row.row c.row.result.now c.loop-index.invariant.rows
          (omega (arith, c.loop-index-test.true, c.len-index-end.ensures.rows)) (c.in_ok-row.ensures ∙ at);
      ids = c.in_ok-insert.ensures.keys ∙ id_new c.loop-index.rows.items c.in_ok-row.row c.loop-index.ids.keys c.loop-index.invariant.ids absent ∙ sym (ap ids c.in_ok-push-2.ensures.items);
      numbers =
          c.in_ok-push.ensures.ok
          ∙ rows_next c.args.self.numbers c.args.other.now.numbers c.loop-index.parents c.loop-index.index c.numbers.result.now [] c.loop-index.invariant.numbers
          (omega (arith, c.loop-index-test.true, c.len-index-end.ensures.numbers)) c.numbers.ensures;
    }
