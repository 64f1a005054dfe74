use Rattle.std.proofs.Common.{◌≡◌, true, None, ◌+◌, ◌<◌, ◌≤◌, ℕ, List, All, length, map, take, get_or}
use Rattle.std.specs.Prelude.{filter, option_map}
use Rattle.std.specs.Arc.{arc_value}
use Rattle.std.specs.List.{AllZip}
use Rattle.osv_record.specs.Advisories.{Advisory}
use Rattle.history.specs.declared.past.Past.{Past}
use Rattle.history.specs.Prefixes.{graphs}
use Rattle.impact_job.specs.Tables.{AreSetsOf}
use Rattle.set_hits.specs.Places.{places_of}
use Rattle.snapshot.specs.Subjects.{is_commit_hit}
use Rattle.snapshot.proofs.commits.first_commit_hits.Given as goal

abbrev pub invariant-loop-index : goal.invariant-loop-index
invariant-loop-index g l =
    record {
      found : (p : List Past) (commit : List ℕ) (none : Advisory) → map (λ x. (x.0.now, x.1)) l.places ≡ places_of (graphs p) commit → AllZip (AreSetsOf p) (map (λ a. arc_value a) l.records) l.sets
          → All (λ i. i < length l.records) l.indexes → All (λ i. is_commit_hit (graphs p) commit None (get_or (map (λ a. arc_value a) l.records) i none) ≡ true) l.indexes
          → map (λ a. arc_value a.now) l.found.items ≡ filter (is_commit_hit (graphs p) commit (option_map (λ k. k.now) l.asked)) (map (λ i. get_or (map (λ a. arc_value a) l.records) i none) (take l.index-index l.indexes));
      fits : length l.found.items ≤ l.size;
      graph : l.steps.graph ≡ l.fn.steps.graph;
      records : l.steps.record_count ≤ l.fn.steps.record_count + l.index-index;
    }
