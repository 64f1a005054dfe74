use Rattle.std.proofs.Common.{◌≡◌, ◌++◌, drop, map}
use Rattle.std.specs.Arc.{arc_value}
use Rattle.repo_index.specs.Index.{all_seen, beside}
use Rattle.repo_index.proofs.noted.note.Given as goal

abbrev pub invariant-loop-number : goal.invariant-loop-number
invariant-loop-number l =
    all_seen l.fn.noted.items ++ beside l.index l.numbers (map (λ a. arc_value a) l.sets) ≡ all_seen l.noted.items ++ beside l.index (drop l.number-index l.numbers) (map (λ a. arc_value a) l.rest)
