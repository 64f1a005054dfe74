use Rattle.std.proofs.Common.{◌≡◌, ◌+◌, ◌<◌, ◌≤◌, ℕ, Bool, List, Vec, Global, All, length, get_or, refl, sym, ap, subst, ◌∙◌, arith}
use Rattle.std.specs.List.Sorted.{IsNonDecreasing}
use Rattle.std.proofs.lemmas.List.{get_or_default}
use Rattle.osv_prim.specs.Counts.{Counts}
use Rattle.osv_prim.specs.declared.oid.CommitRow.{CommitRow}
use Rattle.osv_prim.specs.declared.event.Event.{Event}
use Rattle.impact_set.specs.declared.named.Named.{Named}
use Rattle.impact_set.specs.Passing.{has_number, AreHeld, AreTheNamed, IsOnward, IsPlain}
use Rattle.impact_set.proofs.Naming.{none-between, passed-more}
use Rattle.impact_set.proofs.Forward.{held-over}
use Rattle.impact_set.proofs.reached.pass.Goals as goal
use Rattle.impact_set.proofs.reached.pass.Goals.{then-at-stop+in_ok-pass_named, else-at-stop}

-- the rows up to the next stop are plain
module _ (graph : List CommitRow) (events : List Event) (named : Named) (are : AreTheNamed graph events named) (stops : List ℕ) (is : stops ≡ named.all)
    (i at : ℕ) (passed : (j d : ℕ) → j < i → get_or stops j d < at) where
  plain-next : (end : ℕ) → end ≤ length graph → (i < length stops → end ≤ get_or stops i 0) → (n : ℕ) → at ≤ n → n < end → IsPlain events graph n
  plain-next end end_le next n le lt =
      are.plain n (omega arith)
      (ap (λ (xs : List ℕ). has_number xs n) (sym is)
      ∙ none-between stops (subst IsNonDecreasing (sym is) are.ascending) i at passed n le (λ d i_lt. omega (arith, next i_lt, get_or_default stops i d 0 i_lt)))

  stop-within : i < length stops → get_or stops i 0 < length graph
  stop-within lt = subst (All (λ (k : ℕ). k < length graph)) (sym is) are.within i 0 lt

pub loop-stop-init : goal.loop-stop-init
loop-stop-init g c =
    record { within = c.requires.within; passed = λ j d lt. absurd (omega arith); marks = c.requires.marks; held = c.requires.held; steps = omega arith; records = refl }

pub pass_plain-requires : goal.pass_plain-requires
pass_plain-requires g c =
    let graph = c.args.graph.now in
    let stops = c.as_slice-stops.result.now in
    let i = c.loop-stop.stop-index in
    let inv = c.loop-stop.invariant in
    let i_lt : i < length stops = omega (arith, c.loop-stop-test.true) in
    let within = stop-within graph c.args.events.now c.args.named.now c.requires.named stops c.as_slice-stops.ensures i c.loop-stop.at inv.passed i_lt in
    record {
      roots = c.names_all-from_roots.ensures;
      order = omega arith;
      within = omega arith;
      plain = plain-next graph c.args.events.now c.args.named.now c.requires.named stops c.as_slice-stops.ensures i c.loop-stop.at inv.passed (get_or stops i 0) (omega arith) (λ lt. omega arith);
      marks = inv.marks;
    }

pub pass_named-requires-clause-held : goal.pass_named-requires-clause-held
pass_named-requires-clause-held g c =
    let graph = c.args.graph.now in
    let events = c.args.events.now in
    let stops = c.as_slice-stops.result.now in
    let i = c.loop-stop.stop-index in
    let inv = c.loop-stop.invariant in
    let i_lt : i < length stops = omega (arith, c.loop-stop-test.true) in
    let within = stop-within graph events c.args.named.now c.requires.named stops c.as_slice-stops.ensures i c.loop-stop.at inv.passed i_lt in
    held-over events graph c.len-count.ensures.legal c.loop-stop.at (get_or stops i 0) c.loop-stop.held.items (omega arith)
    (plain-next graph events c.args.named.now c.requires.named stops c.as_slice-stops.ensures i c.loop-stop.at inv.passed (get_or stops i 0) (omega arith) (λ lt. omega arith)) inv.held

pub loop-stop-preserved : goal.loop-stop-preserved
loop-stop-preserved g c =
    let graph = c.args.graph.now in
    let events = c.args.events.now in
    let stops = c.as_slice-stops.result.now in
    let i = c.loop-stop.stop-index in
    let stop = get_or stops i 0 in
    let inv = c.loop-stop.invariant in
    let i_lt : i < length stops = omega (arith, c.loop-stop-test.true) in
    let within = stop-within graph events c.args.named.now c.requires.named stops c.as_slice-stops.ensures i c.loop-stop.at inv.passed i_lt in
    elim c.if-at-stop.branch [
      | then-at-stop+in_ok-pass_named w ↦
          record {
            within = omega (arith, w.at-is, within);
            passed =
                subst (λ (n : ℕ). (j d : ℕ) → j < i + 1 → get_or stops j d < n) (sym w.at-is)
                (passed-more stops i c.loop-stop.at (stop + 1) i_lt inv.passed (omega (arith, w.if-at-stop.true)) (omega arith));
            marks = subst (λ (n : ℕ). IsOnward events graph n c.if-at-stop.marks) (sym w.at-is) (subst (λ (m : List Bool). IsOnward events graph (stop + 1) m) (sym w.marks-is) w.in_ok-pass_named.ensures.marks);
            held = subst (λ (n : ℕ). AreHeld events graph n c.if-at-stop.held.items) (sym w.at-is) (subst (λ (v : Vec ℕ Global). AreHeld events graph (stop + 1) v.items) (sym w.held-is) w.in_ok-pass_named.ensures.held);
            steps = omega (arith, w.at-is, ap (λ (x : Counts). x.graph) w.steps-is, w.pass_named.ensures.steps, w.pass_plain.ensures.steps, inv.steps);
            records = ap (λ (x : Counts). x.record_count) w.steps-is ∙ w.pass_named.ensures.records ∙ w.pass_plain.ensures.records ∙ inv.records;
          }
      | else-at-stop w ↦
          record {
            within = omega (arith, w.at-is, inv.within);
            passed =
                subst (λ (n : ℕ). (j d : ℕ) → j < i + 1 → get_or stops j d < n) (sym w.at-is)
                (passed-more stops i c.loop-stop.at c.loop-stop.at i_lt inv.passed (omega arith) (omega (arith, w.if-at-stop.false)));
            marks = subst (λ (n : ℕ). IsOnward events graph n c.if-at-stop.marks) (sym w.at-is) (subst (λ (m : List Bool). IsOnward events graph c.loop-stop.at m) (sym w.marks-is) inv.marks);
            held = subst (λ (n : ℕ). AreHeld events graph n c.if-at-stop.held.items) (sym w.at-is) (subst (λ (v : Vec ℕ Global). AreHeld events graph c.loop-stop.at v.items) (sym w.held-is) inv.held);
            steps = omega (arith, w.at-is, ap (λ (x : Counts). x.graph) w.steps-is, inv.steps);
            records = ap (λ (x : Counts). x.record_count) w.steps-is ∙ inv.records;
          }
    ]

pub pass_plain-requires-2-clause-plain : goal.pass_plain-requires-2-clause-plain
pass_plain-requires-2-clause-plain g c =
    let graph = c.args.graph.now in
    let stops = c.as_slice-stops.result.now in
    let inv = c.loop-stop.invariant in
    plain-next graph c.args.events.now c.args.named.now c.requires.named stops c.as_slice-stops.ensures c.loop-stop.stop-index c.loop-stop.at inv.passed c.len-count.result
    (omega (arith, c.len-count.ensures.len)) (λ lt. absurd (omega (arith, c.loop-stop-test.false)))

pub returns-clause-held : goal.returns-clause-held
returns-clause-held g c =
    let graph = c.args.graph.now in
    let events = c.args.events.now in
    let stops = c.as_slice-stops.result.now in
    let inv = c.loop-stop.invariant in
    held-over events graph c.len-count.ensures.legal c.loop-stop.at (length graph) c.loop-stop.held.items inv.within
    (plain-next graph events c.args.named.now c.requires.named stops c.as_slice-stops.ensures c.loop-stop.stop-index c.loop-stop.at inv.passed (length graph) (omega arith)
    (λ lt. absurd (omega (arith, c.loop-stop-test.false)))) inv.held
