use Rattle.std.proofs.Common.{◌<◌, ◌≤◌, ℕ, Bool, List, subst, length, get_or, false, sym, ap, ◌∙◌, arith}
use Rattle.git_range.specs.Rows.{AreRows}
use Rattle.impact_set.specs.Standing.{Known, through_of, lets_row_through, reaches_row}
use Rattle.std.proofs.lemmas.List.{length-take}
use Rattle.impact_set.proofs.Forward.{reaches-first}
use Rattle.impact_set.proofs.Members.{member-affected}
use Rattle.impact_set.proofs.set.ImpactSet.extend.Goals as goal

pub grown-requires-clause-same : goal.grown-requires-clause-same
grown-requires-clause-same g c n lt =
    let graph = c.args.graph.now in
    let events = c.args.events.now in
    let known = c.args.self.now in
    let m = length known.reached in
    let long = ap (λ (k : Known). length k.reached) c.self.view_is in
    let low : n < m = omega (arith, lt, long) in
    let within : m ≤ length graph = omega (arith, c.requires.reached.size, length-take m graph) in
    c.in_ok-reached.ensures.reached.each n (omega arith) ∙ sym (reaches-first events graph c.len.ensures.legal m n low within)
    ∙ sym (c.requires.reached.each n (omega (arith, c.requires.reached.size)))
    ∙ sym (ap (λ (k : Known). get_or k.reached n false) c.self.view_is)

pub returns-in_err-digested-clause-few : goal.returns-in_err-digested-clause-few
returns-in_err-digested-clause-few g c none =
    let first = ap (λ (k : Known). length k.reached) c.self.view_is in
    let old = ap (λ (bs : List Bool). length bs) c.bits.ensures in
    omega (arith, first, old, c.reached_rows.ensures.steps)

pub returns-in_err-let_through-clause-few : goal.returns-in_err-let_through-clause-few
returns-in_err-let_through-clause-few g c none =
    let first = ap (λ (k : Known). length k.reached) c.self.view_is in
    let second = c.self.invariant.0 ∙ ap (λ (k : Known). length k.reached) c.self.view_is in
    let old = ap (λ (bs : List Bool). length bs) c.bits.ensures in
    omega (arith, first, old, c.reached_rows.ensures.steps, c.let_through_rows.ensures.few (λ k le lt. none k (omega (arith, second)) lt))

pub invariant_of-result : goal.invariant_of-result
invariant_of-result g c =
    let long = ap (λ (bs : List Bool). length bs) c.in_ok-digested.ensures ∙ c.in_ok-reached.ensures.reached.size in
    (ap (λ (n : ℕ). length (through_of n c.in_ok-let_through.let_through)) long ∙ c.in_ok-let_through.ensures.through.size ∙ sym long, omega (arith, long, c.len.ensures.len, c.len.type_inv))

pub returns-clause-affected : goal.returns-clause-affected
returns-clause-affected g c =
    let graph = c.args.graph.now in
    let events = c.args.events.now in
    let reached = subst (λ (bs : List Bool). AreRows (length graph) bs (reaches_row events graph)) (sym c.in_ok-digested.ensures) c.in_ok-reached.ensures.reached in
    member-affected events graph _
    (record {
      reached = reached;
      let_through =
          subst (λ (n : ℕ). AreRows (length graph) (through_of n c.in_ok-let_through.let_through) (lets_row_through events graph)) (sym reached.size)
          c.in_ok-let_through.ensures.through;
    })

pub returns-clause-few : goal.returns-clause-few
returns-clause-few g c none =
    let first = ap (λ (k : Known). length k.reached) c.self.view_is in
    let second = c.self.invariant.0 ∙ ap (λ (k : Known). length k.reached) c.self.view_is in
    let old = ap (λ (bs : List Bool). length bs) c.bits.ensures in
    omega (arith, first, old, c.reached_rows.ensures.steps, c.let_through_rows.ensures.few (λ k le lt. none k (omega (arith, second)) lt))
