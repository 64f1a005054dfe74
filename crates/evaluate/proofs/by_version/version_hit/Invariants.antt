use Rattle.std.proofs.Common.{◌≡◌, length, option_map}
use Rattle.std.specs.List.{list_any}
use Rattle.evaluate.specs.Hits.{version_entry_hit, version_hit}
use Rattle.evaluate.proofs.by_version.version_hit.Given as goal

abbrev pub invariant-loop-rest : goal.invariant-loop-rest
invariant-loop-rest l = list_any (version_entry_hit l.asked (option_map (λ t. t.now) l.version)) l.rest ≡ version_hit l.advisory l.asked (option_map (λ t. t.now) l.version)

abbrev pub decreases-loop-rest : goal.decreases-loop-rest
decreases-loop-rest l = length l.rest
