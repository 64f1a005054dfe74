use Rattle.std.proofs.Common.{◌≡◌, ◌+◌, ◌<◌, ◌≤◌, All, length, map, take, get_or}
use Rattle.std.specs.Prelude.{filter, option_map}
use Rattle.std.specs.Arc.{arc_value}
use Rattle.osv_record.specs.Advisories.{Advisory}
use Rattle.form_index.specs.Index.{AreIndexed}
use Rattle.snapshot.specs.Ranges.{IsKeysOf}
use Rattle.snapshot.specs.Subjects.{is_package_hit}
use Rattle.snapshot.proofs.packages.first_package_hits.Given as goal

abbrev pub invariant-loop-index : goal.invariant-loop-index
invariant-loop-index g l =
    record {
      found : (none : Advisory) → AreIndexed (map (λ a. arc_value a) l.records) l.ranges → IsKeysOf l.keys (option_map (λ t. t.now) l.version) → All (λ i. i < length l.records) l.indexes → map (λ a. arc_value a.now) l.found.items
          ≡ filter (is_package_hit l.asked (option_map (λ t. t.now) l.version)) (map (λ i. get_or (map (λ a. arc_value a) l.records) i none) (take l.index-index l.indexes));
      fits : length l.found.items ≤ l.size;
      graph : l.steps.graph ≡ l.fn.steps.graph;
      records : l.steps.record_count ≤ l.fn.steps.record_count + l.index-index;
    }
