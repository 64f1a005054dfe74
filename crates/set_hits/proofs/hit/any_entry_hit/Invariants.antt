use Rattle.std.proofs.Common.{◌≡◌, ℕ, List, map, drop}
use Rattle.std.specs.Prelude.{option_map}
use Rattle.std.specs.Arc.{arc_value}
use Rattle.std.specs.List.{AllZip, list_any}
use Rattle.osv_record.specs.Advisories.{Advisory}
use Rattle.evaluate.specs.Hits.{git_entry_hit}
use Rattle.history.specs.declared.past.Past.{Past}
use Rattle.history.specs.Prefixes.{graphs}
use Rattle.history.specs.Pieces.{ranges_of_entries}
use Rattle.piece_work.specs.Sets.{IsSetOf}
use Rattle.set_hits.specs.Places.{places_of}
use Rattle.set_hits.proofs.hit.any_entry_hit.Given as goal

abbrev pub invariant-loop-entry : goal.invariant-loop-entry
invariant-loop-entry l =
    (p : List Past) (commit : List ℕ) (r : Advisory) (e : ℕ) → map (λ x. (x.0.now, x.1)) l.places ≡ places_of (graphs p) commit → AllZip (IsSetOf p) (ranges_of_entries r e l.entries) (map (λ a. arc_value a) l.sets)
    → (j : ℕ) × AllZip (IsSetOf p) (ranges_of_entries r j (drop l.entry-index l.entries)) (map (λ a. arc_value a) l.own)
    × (list_any (git_entry_hit (graphs p) commit (option_map (λ k. k.now) l.asked)) l.entries ≡ list_any (git_entry_hit (graphs p) commit (option_map (λ k. k.now) l.asked)) (drop l.entry-index l.entries))
