use Rattle.std.proofs.Common.{◌≡◌, length, map}
use Rattle.std.specs.Arc.{arc_value}
use Rattle.id_index.specs.Heads.{AreFirst}
use Rattle.id_index.proofs.index.put_heads.Given as goal

abbrev pub invariant-loop-place : goal.invariant-loop-place
invariant-loop-place l =
    record {
      first : AreFirst l.fn.heads.items (map (λ a. arc_value a) l.records) → AreFirst l.heads.items (map (λ a. arc_value a) l.records);
      count : length l.heads.items ≡ l.place;
    }
