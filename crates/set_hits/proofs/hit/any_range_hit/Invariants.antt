use Rattle.std.proofs.Common.{◌≡◌, ℕ, ◌||◌, List, ◌++◌, map, drop}
use Rattle.std.specs.Arc.{arc_value}
use Rattle.std.specs.List.{AllZip, list_any}
use Rattle.osv_record.specs.Advisories.{Advisory}
use Rattle.evaluate.specs.Hits.{git_range_hit}
use Rattle.history.specs.declared.past.Past.{Past}
use Rattle.history.specs.Prefixes.{graphs}
use Rattle.history.specs.Pieces.{GitRange, ranges_from}
use Rattle.piece_work.specs.Sets.{IsSetOf}
use Rattle.set_hits.specs.Places.{places_of}
use Rattle.set_hits.proofs.hit.any_range_hit.Given as goal

abbrev pub invariant-loop-range : goal.invariant-loop-range
invariant-loop-range l =
    (p : List Past) (commit : List ℕ) (r : Advisory) (e i : ℕ) (more : List GitRange) → map (λ x. (x.0.now, x.1)) l.places ≡ places_of (graphs p) commit
    → AllZip (IsSetOf p) (ranges_from r e i l.ranges ++ more) (map (λ a. arc_value a) l.sets)
    → (j : ℕ) × AllZip (IsSetOf p) (ranges_from r e j (drop l.range-index l.ranges) ++ more) (map (λ a. arc_value a) l.own)
    × (list_any (git_range_hit (graphs p) commit) l.ranges ≡ (l.any || list_any (git_range_hit (graphs p) commit) (drop l.range-index l.ranges)))
