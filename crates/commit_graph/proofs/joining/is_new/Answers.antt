use Rattle.std.proofs.Common.{◌≡◌, ℕ, List, true, false, sym, ap, ◌∙◌}
use Rattle.commit_graph.specs.Faults.{same_ids}
use Rattle.commit_graph.proofs.Faulty.{passed_over, differing}
use Rattle.commit_graph.proofs.joining.is_new.Goals as goal

pub returns-then-eq-clause-sound : goal.returns-then-eq-clause-sound
returns-then-eq-clause-sound g c =
    let same : same_ids c.row_at.result.now.parents c.args.row.now.parents ≡ true =
    ap (λ (ps : List (List ℕ)). same_ids ps c.args.row.now.parents) (sym c.as_slice.ensures) ∙ ap (same_ids c.as_slice.result.now) (sym c.as_slice-parents.ensures) ∙ sym c.eq.ensures ∙ c.if-eq.true in
    passed_over c.args.graph.now c.args.most c.args.index c.args.row.now c.in-Some.number c.row_at.result.now (sym c.number_of.ensures.number ∙ c.in-Some.is) c.row_at.ensures.row same

pub returns-in-Some-clause-fault : goal.returns-in-Some-clause-fault
returns-in-Some-clause-fault g c = λ other.
    let same : same_ids c.row_at.result.now.parents c.args.row.now.parents ≡ false =
    ap (λ (ps : List (List ℕ)). same_ids ps c.args.row.now.parents) (sym c.as_slice.ensures) ∙ ap (same_ids c.as_slice.result.now) (sym c.as_slice-parents.ensures) ∙ sym c.eq.ensures ∙ c.if-eq.false in
    differing c.args.graph.now c.args.most c.args.index c.args.row.now c.in-Some.number c.row_at.result.now (sym c.number_of.ensures.number ∙ c.in-Some.is) c.row_at.ensures.row same
