use Rattle.std.proofs.Common.{◌≡◌, ◌≢◌, ◌+◌, ◌<◌, Bool, false, ◌||◌, List, length, take, get_or, Some, sym, subst, ◌∙◌, arith}
use Rattle.osv_prim.specs.Graphs.{id_at, is_named}
use Rattle.git_range.proofs.Naming.{noted_same, noted_set}
use Rattle.git_range.proofs.events.note_named.Goals as goal
use Rattle.git_range.proofs.events.note_named.Goals.{in-Some+then-number-noted, in-Some+else-number-noted, in_default}

pub loop-event-preserved : goal.loop-event-preserved
loop-event-preserved c n lt =
    let graph = c.args.graph.now in
    let first = c.args.noted.now in
    let events = c.args.events.now in
    let i = c.loop-event.event-index in
    let before : n < length c.loop-event.noted = omega (arith, lt, c.match-row_named.auto.noted) in
    let within : n < length graph = omega (arith, before, c.loop-event.auto.noted, c.requires) in
    let so_far = c.loop-event.invariant n before in
    let Goal : List Bool → Type 0 = λ xs. get_or xs n false ≡ (get_or first n false || is_named c.args.kind (take (i + 1) events) (id_at graph n)) in
    let same : c.row_named.result ≢ Some n → Goal c.loop-event.noted =
    λ ne. noted_same graph c.args.kind events i c.event-item.result c.loop-event-test.true c.event-item.is c.row_named.result c.row_named.ensures.named first c.loop-event.noted n within ne so_far in
    elim c.match-row_named.branch [
      | in-Some+then-number-noted w ↦
          subst Goal (sym w.noted-is)
          (noted_set graph c.args.kind events i c.event-item.result c.loop-event-test.true c.event-item.is c.row_named.result c.row_named.ensures.named first c.loop-event.noted
          w.in-Some.number w.in-Some.is w.if-number-noted.true n within so_far)
      | in-Some+else-number-noted w ↦
          subst Goal (sym w.noted-is)
          (same (λ is. let both : Some w.in-Some.number ≡ Some n = sym w.in-Some.is ∙ is in let one : w.in-Some.number ≡ n = cc in omega (arith, w.if-number-noted.false, before, one)))
      | in_default w ↦ subst Goal (sym w.noted-is) (same (λ is. cc))
    ]
