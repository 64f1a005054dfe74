use Rattle.std.proofs.Common.{◌≡◌, ◌++◌, false, None, length}
use Rattle.std.specs.Vec.Iter.{into_iter_items, into_iter_len}
use Rattle.range_eval.specs.Compiled.{limit_from, turns}
use Rattle.range_eval.proofs.compiled.of_sorted.Given as goal

abbrev pub invariant-loop-kind : goal.invariant-loop-kind
invariant-loop-kind g l = record {
  turns : l.turns.items ++ turns l.flag (into_iter_items l.kind-iterator) ≡ turns false l.fn.events.items;
  limit : limit_from g.T.Ord.cmp l.limit (into_iter_items l.kind-iterator) ≡ limit_from g.T.Ord.cmp None l.fn.events.items;
  left : length (into_iter_items l.kind-iterator) ≡ into_iter_len l.kind-iterator;
}
