use Rattle.std.proofs.Common.{ℕ, ◌+◌, ◌++◌, List, length, map, take, sym, ap, ◌∙◌, arith}
use Rattle.std.specs.Arc.{arc_value}
use Rattle.osv_prim.specs.declared.oid.CommitRow.{CommitRow}
use Rattle.commit_index.specs.Places.{places, place_in}
use Rattle.commit_index.proofs.Finding.{places-more, lengths-more, first-fewer}
use Rattle.commit_index.proofs.index.CommitIndex.build.Goals as goal

pub loop-number-preserved : goal.loop-number-preserved
loop-number-preserved g c =
    let repos = c.args.repos.now in
    let n = c.loop-number.number in
    let item = c.index-repos-number.result in
    let inv = c.loop-number.invariant in
    record {
      places = λ k.
          c.in_ok-push_rows.ensures.rows k ∙ ap (λ (xs : List (ℕ × ℕ)). xs ++ place_in n c.deref.result.now k) (inv.places k)
          ∙ ap (λ (rows : List CommitRow). places (map (λ r. arc_value r.1) (take n repos)) k ++ place_in n rows k) c.deref.ensures
          ∙ sym (places-more (λ r. arc_value r.1) repos n item c.loop-number-test.true c.index-repos-number.is k);
      steps = omega (arith, c.in_ok-push_rows.ensures.steps, inv.steps, lengths-more (λ r. arc_value r.1) repos n item c.loop-number-test.true c.index-repos-number.is, ap (λ (rows : List CommitRow). length rows) c.deref.ensures);
      records = c.in_ok-push_rows.ensures.records ∙ inv.records;
    }

pub returns-in_err-push_rows-clause-steps : goal.returns-in_err-push_rows-clause-steps
returns-in_err-push_rows-clause-steps g c =
    let repos = c.args.repos.now in
    let n = c.loop-number.number in
    let item = c.index-repos-number.result in
    omega (
      arith,
      c.push_rows.ensures.steps,
      c.loop-number.invariant.steps,
      lengths-more (λ r. arc_value r.1) repos n item c.loop-number-test.true c.index-repos-number.is,
      ap (λ (rows : List CommitRow). length rows) c.deref.ensures,
      first-fewer (λ r. arc_value r.1) repos (n + 1),
    )
