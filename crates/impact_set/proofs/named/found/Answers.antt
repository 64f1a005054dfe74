use Rattle.std.proofs.Common.{◌<◌, ℕ, List, All, length, sym, ap, subst, ◌∙◌}
use Rattle.std.proofs.lemmas.List.Elements.{All-append}
use Rattle.std.specs.Option.{option_to_list}
use Rattle.impact_set.specs.Passing.{has_number}
use Rattle.impact_set.proofs.Naming.{named-more, option-within}
use Rattle.impact_set.proofs.named.found.Goals as goal

pub loop-event-preserved : goal.loop-event-preserved
loop-event-preserved c =
    let graph = c.args.graph.now in
    let i = c.loop-event.event-index in
    record {
      named = λ n lt.
          ap (λ (xs : List ℕ). has_number xs n) c.in_ok-push_some.ensures
          ∙ named-more graph c.args.kind c.args.events.now i c.event-item.result c.loop-event-test.true c.event-item.is c.row_named.result c.row_named.ensures.named c.loop-event.numbers.items
          c.loop-event.invariant.named n lt;
      within =
          subst (All (λ (k : ℕ). k < length graph)) (sym c.in_ok-push_some.ensures)
          (All-append (λ (k : ℕ). k < length graph) c.loop-event.numbers.items (option_to_list c.row_named.result) c.loop-event.invariant.within
          (option-within (λ (k : ℕ). k < length graph) c.row_named.result c.row_named.ensures.within));
    }
