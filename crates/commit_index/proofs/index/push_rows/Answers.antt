use Rattle.std.proofs.Common.{◌≡◌, ◌++◌, ℕ, List, map, length, refl, sym, ap, ◌∙◌, arith, append-nil}
use Rattle.osv_prim.specs.Counts.{Counts}
use Rattle.commit_index.specs.Places.{found}
use Rattle.commit_index.proofs.Finding.{rows-before, found-more, row-id}
use Rattle.commit_index.proofs.index.push_rows.Goals as goal

pub loop-number-init : goal.loop-number-init
loop-number-init g c = record { rows = λ k. sym (append-nil (found c.args.entries.now.items k)); steps = omega arith; records = refl }

pub loop-number-preserved : goal.loop-number-preserved
loop-number-preserved g c =
    let graph = c.args.graph.now in
    let n = c.loop-number.number in
    let inv = c.loop-number.invariant in
    record {
      rows = λ k.
          ap (λ (es : List (List ℕ × (ℕ × ℕ))). found es k) c.in_ok-push.ensures.items
          ∙ found-more graph c.args.repo n c.loop-number.entries.items c.args.entries.now.items inv.rows _ (row-id graph n c.row_at.result.now c.row_at.ensures.row) k;
      steps = omega (arith, ap (λ (x : Counts). x.graph) c.row_at.ensures.steps, inv.steps);
      records = ap (λ (x : Counts). x.record_count) c.row_at.ensures.steps ∙ inv.records;
    }

pub returns-clause-rows : goal.returns-clause-rows
returns-clause-rows g c k =
    let graph = c.args.graph.now in
    let done : c.loop-number.number ≡ length graph = omega (arith, c.loop-number-test.false, c.len-count.ensures.len) in
    c.loop-number.invariant.rows k ∙ ap (λ (n : ℕ). found c.args.entries.now.items k ++ map (λ (j : ℕ). (c.args.repo, j)) (rows-before graph k n)) done
