use Rattle.std.proofs.Common.{◌≡◌, ◌++◌, length, map}
use Rattle.std.specs.Vec.Iter.{into_iter_items, into_iter_len}
use Rattle.multimap.proofs.sorted.split.Given as goal

abbrev pub invariant-loop-key : goal.invariant-loop-key
invariant-loop-key g l =
    record {
      keys : l.keys.items ++ map (λ e. e.0) (into_iter_items l.key-iterator) ≡ map (λ e. e.0) l.fn.entries.items;
      values : l.values.items ++ map (λ e. e.1) (into_iter_items l.key-iterator) ≡ map (λ e. e.1) l.fn.entries.items;
      left : length (into_iter_items l.key-iterator) ≡ into_iter_len l.key-iterator;
    }
