use Rattle.std.proofs.Common.{◌≡◌, ◌≢◌, AllPairs, arith, ap, sym, subst, ◌∙◌, ◌++◌, take}
use Rattle.std.specs.List.{flat_map}
use Rattle.std.proofs.lemmas.Result.{IfOk-weaker}
use Rattle.osv_prim.specs.Graphs.{ids}
use Rattle.commit_graph.specs.Segments.{Part, seen, rows_of, numbers_of}
use Rattle.commit_graph.proofs.Parts.{seen_all, differ_next, merged_next, differ_last, merged_last}
use Rattle.commit_graph.proofs.segments.merged.Goals as goal

pub with_rows-requires : goal.with_rows-requires
with_rows-requires c =
    subst (λ (p : Part). AllPairs (λ a b. a ≢ b) (ids (c.loop-index.whole.rows ++ p.rows))) (sym c.deref.ensures)
    (differ_next c.args.segments.now c.loop-index.index c.index-segments-index.result c.loop-index-test.true c.index-segments-index.is
    (flat_map (λ (p : Part). p.rows) (take c.args.from (seen c.args.segments.now))) c.loop-index.whole.rows c.args.fresh.rows c.loop-index.invariant.rows c.requires.differ)

pub loop-index-preserved : goal.loop-index-preserved
loop-index-preserved c =
    record {
      rows =
          ap (λ xs. flat_map (λ (p : Part). p.rows) (take c.args.from (seen c.args.segments.now)) ++ xs)
          (c.in_ok-whole-2.ensures.rows ∙ ap (λ (p : Part). c.loop-index.whole.rows ++ p.rows) c.deref.ensures)
          ∙ merged_next c.args.segments.now c.loop-index.index c.index-segments-index.result c.loop-index-test.true c.index-segments-index.is (λ (p : Part). p.rows)
          (flat_map (λ (p : Part). p.rows) (take c.args.from (seen c.args.segments.now))) c.loop-index.whole.rows c.loop-index.invariant.rows;
      numbers =
          ap (λ xs. flat_map (λ (p : Part). p.numbers) (take c.args.from (seen c.args.segments.now)) ++ xs)
          (c.in_ok-whole-2.ensures.numbers ∙ ap (λ (p : Part). c.loop-index.whole.numbers ++ p.numbers) c.deref.ensures)
          ∙ merged_next c.args.segments.now c.loop-index.index c.index-segments-index.result c.loop-index-test.true c.index-segments-index.is (λ (p : Part). p.numbers)
          (flat_map (λ (p : Part). p.numbers) (take c.args.from (seen c.args.segments.now))) c.loop-index.whole.numbers c.loop-index.invariant.numbers;
    }

pub with_rows-requires-2 : goal.with_rows-requires-2
with_rows-requires-2 c =
    differ_last (flat_map (λ (p : Part). p.rows) (take c.args.from (seen c.args.segments.now))) c.loop-index.whole.rows c.args.fresh.rows (flat_map (λ (p : Part). p.rows) (seen c.args.segments.now))
    (c.loop-index.invariant.rows ∙ seen_all (λ (p : Part). p.rows) c.args.segments.now c.loop-index.index (omega (arith, c.loop-index-test.false))) c.requires.differ

pub returns-clause-rows : goal.returns-clause-rows
returns-clause-rows c =
    IfOk-weaker c.with_rows-2.result (λ s. s.rows ≡ c.loop-index.whole.rows ++ c.args.fresh.rows)
    (λ s. rows_of (take c.args.from (seen c.args.segments.now)) s ≡ rows_of (seen c.args.segments.now) c.args.fresh)
    (λ s is. ap (λ xs. flat_map (λ (p : Part). p.rows) (take c.args.from (seen c.args.segments.now)) ++ xs) is
    ∙ merged_last (flat_map (λ (p : Part). p.rows) (take c.args.from (seen c.args.segments.now))) c.loop-index.whole.rows c.args.fresh.rows (flat_map (λ (p : Part). p.rows) (seen c.args.segments.now))
    (c.loop-index.invariant.rows ∙ seen_all (λ (p : Part). p.rows) c.args.segments.now c.loop-index.index (omega (arith, c.loop-index-test.false))))
    c.with_rows-2.ensures.rows

pub returns-clause-numbers : goal.returns-clause-numbers
returns-clause-numbers c =
    IfOk-weaker c.with_rows-2.result (λ s. s.numbers ≡ c.loop-index.whole.numbers ++ c.args.fresh.numbers)
    (λ s. numbers_of (take c.args.from (seen c.args.segments.now)) s ≡ numbers_of (seen c.args.segments.now) c.args.fresh)
    (λ s is. ap (λ xs. flat_map (λ (p : Part). p.numbers) (take c.args.from (seen c.args.segments.now)) ++ xs) is
    ∙ merged_last (flat_map (λ (p : Part). p.numbers) (take c.args.from (seen c.args.segments.now))) c.loop-index.whole.numbers c.args.fresh.numbers (flat_map (λ (p : Part). p.numbers) (seen c.args.segments.now))
    (c.loop-index.invariant.numbers ∙ seen_all (λ (p : Part). p.numbers) c.args.segments.now c.loop-index.index (omega (arith, c.loop-index-test.false))))
    c.with_rows-2.ensures.numbers
