use Rattle.std.proofs.Common.{◌≡◌, ◌++◌, map, option_map}
use Rattle.std.specs.Arc.{arc_value}
use Rattle.std.specs.BTreeMap.{btree_map_len}
use Rattle.evaluate.specs.Kept.{ids_of_entries}
use Rattle.evaluate.proofs.git_imports.hits_among.Given as goal

abbrev pub invariant-loop-id : goal.invariant-loop-id
invariant-loop-id g l =
    let ids = ids_of_entries (map (λ g. (g.0, arc_value g.1)) l.repos) l.commit (option_map (λ k. k.now) l.asked) in
    l.found.items ++ ids l.kept.entries ≡ ids l.fn.kept.entries

abbrev pub decreases-loop-id : goal.decreases-loop-id
decreases-loop-id g l = btree_map_len l.kept
