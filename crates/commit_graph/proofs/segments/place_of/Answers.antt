use Rattle.std.proofs.Common.{ℕ, List, length, get_or, length-append, arith, ap, sym, ◌∙◌}
use Rattle.std.specs.List.{flat_map}
use Rattle.osv_prim.specs.declared.oid.CommitRow.{CommitRow}
use Rattle.commit_graph.specs.Segments.{Part, seen}
use Rattle.commit_graph.proofs.Parts.{seen_in, seen_counted, seen_all, row_behind}
use Rattle.commit_graph.proofs.segments.place_of.Goals as goal

pub returns-then-index-count-clause-row : goal.returns-then-index-count-clause-row
returns-then-index-count-clause-row c = λ d.
    seen_in c.args.segments.now c.loop-segment.segment-index c.segment-item.result c.loop-segment-test.true c.segment-item.is (λ (p : Part). p.rows) c.args.fresh.now.rows
    c.args.number c.loop-segment.index d c.loop-segment.invariant.rows (omega (arith, c.if-index-count.true, c.len-count.ensures.rows, ap (λ (p : Part). length p.rows) c.deref.ensures))
    ∙ ap (λ (p : Part). get_or p.rows c.loop-segment.index d) (sym c.deref-then-index-count.ensures)

pub returns-then-index-count-clause-numbers : goal.returns-then-index-count-clause-numbers
returns-then-index-count-clause-numbers c = λ d.
    seen_in c.args.segments.now c.loop-segment.segment-index c.segment-item.result c.loop-segment-test.true c.segment-item.is (λ (p : Part). p.numbers) c.args.fresh.now.numbers
    c.args.number c.loop-segment.index d c.loop-segment.invariant.numbers (omega (arith, c.if-index-count.true, c.len-count.ensures.numbers, ap (λ (p : Part). length p.numbers) c.deref.ensures))
    ∙ ap (λ (p : Part). get_or p.numbers c.loop-segment.index d) (sym c.deref-then-index-count.ensures)

pub loop-segment-preserved : goal.loop-segment-preserved
loop-segment-preserved c =
    record {
      rows =
          omega (
            arith,
            c.loop-segment.invariant.rows,
            c.if-index-count.false,
            c.len-count.ensures.rows,
            ap (λ (p : Part). length p.rows) c.deref.ensures,
            seen_counted c.args.segments.now c.loop-segment.segment-index c.segment-item.result c.loop-segment-test.true c.segment-item.is (λ (p : Part). p.rows),
          );
      numbers =
          omega (
            arith,
            c.loop-segment.invariant.numbers,
            c.if-index-count.false,
            c.len-count.ensures.numbers,
            ap (λ (p : Part). length p.numbers) c.deref.ensures,
            seen_counted c.args.segments.now c.loop-segment.segment-index c.segment-item.result c.loop-segment-test.true c.segment-item.is (λ (p : Part). p.numbers),
          );
    }

pub returns : goal.returns
returns c =
    let rows = ap (λ (xs : List CommitRow). length xs) (seen_all (λ (p : Part). p.rows) c.args.segments.now c.loop-segment.segment-index (omega (arith, c.loop-segment-test.false))) in
    let numbers = ap (λ (xs : List (List ℕ)). length xs) (seen_all (λ (p : Part). p.numbers) c.args.segments.now c.loop-segment.segment-index (omega (arith, c.loop-segment-test.false))) in
    record {
      within =
          omega (arith, c.requires, c.loop-segment.invariant.rows, rows, length-append (flat_map (λ (p : Part). p.rows) (seen c.args.segments.now)) c.args.fresh.now.rows);
      row = λ d.
          row_behind (flat_map (λ (p : Part). p.rows) (seen c.args.segments.now)) c.args.fresh.now.rows c.args.number c.loop-segment.index d
          (omega (arith, c.loop-segment.invariant.rows, rows));
      numbers = λ d.
          row_behind (flat_map (λ (p : Part). p.numbers) (seen c.args.segments.now)) c.args.fresh.now.numbers c.args.number c.loop-segment.index d
          (omega (arith, c.loop-segment.invariant.numbers, numbers));
    }
