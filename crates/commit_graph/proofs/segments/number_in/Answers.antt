use Rattle.std.proofs.Common.{List, length, length-append, arith, sym, ap, ◌∙◌}
use Rattle.std.specs.Arc.{arc_value}
use Rattle.std.specs.List.{flat_map}
use Rattle.osv_prim.specs.declared.oid.CommitRow.{CommitRow}
use Rattle.osv_prim.specs.Graphs.{number_of}
use Rattle.commit_graph.specs.Segments.{Part, seen}
use Rattle.commit_graph.proofs.Rows.{found}
use Rattle.commit_graph.proofs.Parts.{seen_within, seen_counted, seen_all, number_found, number_later, number_behind, number_none}
use Rattle.commit_graph.proofs.segments.number_in.Goals as goal

pub overflow_add-result : goal.overflow_add-result
overflow_add-result c =
    omega (
      arith,
      c.loop-segment.invariant.count,
      c.requires,
      (found (arc_value c.segment-item.result).rows c.args.oid.now c.in-Some.index (ap (λ (p : Part). number_of p.rows c.args.oid.now) (sym c.deref.ensures) ∙ sym c.number_of.ensures ∙ c.in-Some.is)).0,
      seen_within c.args.segments.now c.loop-segment.segment-index c.segment-item.result c.loop-segment-test.true c.segment-item.is (λ (p : Part). p.rows),
      length-append (flat_map (λ (p : Part). p.rows) (seen c.args.segments.now)) c.args.fresh.now.rows,
    )

pub returns-in-Some : goal.returns-in-Some
returns-in-Some c =
    sym (number_found c.args.segments.now c.loop-segment.segment-index c.segment-item.result c.loop-segment-test.true c.segment-item.is c.args.fresh.now.rows c.args.oid.now
    c.loop-segment.first c.in-Some.index c.loop-segment.invariant.none c.loop-segment.invariant.count
    (ap (λ (p : Part). number_of p.rows c.args.oid.now) (sym c.deref.ensures) ∙ sym c.number_of.ensures ∙ c.in-Some.is))

pub overflow_cast-result : goal.overflow_cast-result
overflow_cast-result c =
    omega (
      arith,
      c.loop-segment.invariant.count,
      c.requires,
      (found (arc_value c.segment-item.result).rows c.args.oid.now c.in-Some.index (ap (λ (p : Part). number_of p.rows c.args.oid.now) (sym c.deref.ensures) ∙ sym c.number_of.ensures ∙ c.in-Some.is)).0,
      seen_within c.args.segments.now c.loop-segment.segment-index c.segment-item.result c.loop-segment-test.true c.segment-item.is (λ (p : Part). p.rows),
      length-append (flat_map (λ (p : Part). p.rows) (seen c.args.segments.now)) c.args.fresh.now.rows,
    )

pub overflow_add-first : goal.overflow_add-first
overflow_add-first c =
    omega (
      arith,
      c.loop-segment.invariant.count,
      c.requires,
      c.len-first.ensures.rows,
      ap (λ (p : Part). length p.rows) c.deref-in-None.ensures,
      seen_within c.args.segments.now c.loop-segment.segment-index c.segment-item.result c.loop-segment-test.true c.segment-item.is (λ (p : Part). p.rows),
      length-append (flat_map (λ (p : Part). p.rows) (seen c.args.segments.now)) c.args.fresh.now.rows,
    )

pub loop-segment-preserved : goal.loop-segment-preserved
loop-segment-preserved c =
    record {
      count =
          omega (
            arith,
            c.loop-segment.invariant.count,
            c.len-first.ensures.rows,
            ap (λ (p : Part). length p.rows) c.deref-in-None.ensures,
            seen_counted c.args.segments.now c.loop-segment.segment-index c.segment-item.result c.loop-segment-test.true c.segment-item.is (λ (p : Part). p.rows),
          );
      none =
          number_later c.args.segments.now c.loop-segment.segment-index c.segment-item.result c.loop-segment-test.true c.segment-item.is c.args.oid.now c.loop-segment.invariant.none
          (ap (λ (p : Part). number_of p.rows c.args.oid.now) (sym c.deref.ensures) ∙ sym c.number_of.ensures ∙ c.in-None.is);
    }

pub returns-in-Some-number_of : goal.returns-in-Some-number_of
returns-in-Some-number_of c =
    let all = seen_all (λ (p : Part). p.rows) c.args.segments.now c.loop-segment.segment-index (omega (arith, c.loop-segment-test.false)) in
    sym (number_behind (flat_map (λ (p : Part). p.rows) (seen c.args.segments.now)) c.args.fresh.now.rows c.args.oid.now c.in-Some-number_of.index c.loop-segment.first
    (ap (λ (g : List CommitRow). number_of g c.args.oid.now) (sym all) ∙ c.loop-segment.invariant.none) (sym c.number_of-2.ensures ∙ c.in-Some-number_of.is)
    (c.loop-segment.invariant.count ∙ ap (λ (g : List CommitRow). length g) all))

pub returns-in-None-number_of : goal.returns-in-None-number_of
returns-in-None-number_of c =
    let all = seen_all (λ (p : Part). p.rows) c.args.segments.now c.loop-segment.segment-index (omega (arith, c.loop-segment-test.false)) in
    sym (number_none (flat_map (λ (p : Part). p.rows) (seen c.args.segments.now)) c.args.fresh.now.rows c.args.oid.now
    (ap (λ (g : List CommitRow). number_of g c.args.oid.now) (sym all) ∙ c.loop-segment.invariant.none) (sym c.number_of-2.ensures ∙ c.in-None-number_of.is))
