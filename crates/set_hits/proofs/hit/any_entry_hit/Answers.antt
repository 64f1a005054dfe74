use Rattle.std.proofs.Common.{◌≡◌, ℕ, ◌+◌, Bool, true, false, ◌||◌, List, ◌∷◌, ◌++◌, Option, map, drop, sym, ap, subst, ◌∙◌}
use Rattle.std.specs.Prelude.{option_map}
use Rattle.std.specs.Arc.{arc_value}
use Rattle.std.specs.List.{AllZip, list_any}
use Rattle.osv_prim.specs.declared.package.PackageKey.{PackageKey}
use Rattle.osv_record.specs.Advisories.{Extent, Entry}
use Rattle.evaluate.specs.Hits.{git_entry_hit}
use Rattle.history.specs.Prefixes.{graphs}
use Rattle.history.specs.Pieces.{ranges_from, ranges_of_entries}
use Rattle.piece_work.specs.Sets.{IsSetOf}
use Rattle.set_hits.proofs.Hitting.{entry-says, item_next}
use Rattle.set_hits.proofs.hit.any_entry_hit.Goals as goal

pub returns-then-is_hit : goal.returns-then-is_hit
returns-then-is_hit c = λ p commit r e at h.
    let m = c.loop-entry.invariant p commit r e at h in
    let a : Entry = c.entry-item.result in
    let k : ℕ = c.loop-entry.entry-index in
    let rest : List Entry = drop (k + 1) c.args.entries.now in
    let next : drop k c.args.entries.now ≡ a ∷ rest = item_next c.args.entries.now k a c.loop-entry-test.true c.entry-item.is in
    let own : c.as_slice.result.now ≡ a.ranges = c.as_slice.ensures ∙ ap (λ (y : Entry). y.ranges) c.entry.view_is in
    let asked : Option PackageKey = option_map (λ k. k.now) c.args.asked in
    let f =
    c.any_range_hit-hit.ensures p commit r m.0 0 (ranges_of_entries r (m.0 + 1) rest) at
    (subst (λ (xs : List Extent). AllZip (IsSetOf p) (ranges_from r m.0 0 xs ++ ranges_of_entries r (m.0 + 1) rest) (map (λ a. arc_value a) c.loop-entry.own.now)) (sym own)
    (subst (λ (xs : List Entry). AllZip (IsSetOf p) (ranges_of_entries r m.0 xs) (map (λ a. arc_value a) c.loop-entry.own.now)) next m.1))
    in
    let says : git_entry_hit (graphs p) commit asked a ≡ true = entry-says (graphs p) commit asked a c.as_slice.result.now c.any_range_hit-hit.result.0 c.is_hit.result true own f.0 c.is_hit.ensures c.if-is_hit.true in
    sym (m.2 ∙ ap (list_any (git_entry_hit (graphs p) commit asked)) next ∙ ap (λ (b : Bool). b || list_any (git_entry_hit (graphs p) commit asked) rest) says)

pub loop-entry-preserved : goal.loop-entry-preserved
loop-entry-preserved c = λ p commit r e at h.
    let m = c.loop-entry.invariant p commit r e at h in
    let a : Entry = c.entry-item.result in
    let k : ℕ = c.loop-entry.entry-index in
    let rest : List Entry = drop (k + 1) c.args.entries.now in
    let next : drop k c.args.entries.now ≡ a ∷ rest = item_next c.args.entries.now k a c.loop-entry-test.true c.entry-item.is in
    let own : c.as_slice.result.now ≡ a.ranges = c.as_slice.ensures ∙ ap (λ (y : Entry). y.ranges) c.entry.view_is in
    let asked : Option PackageKey = option_map (λ k. k.now) c.args.asked in
    let f =
    c.any_range_hit-hit.ensures p commit r m.0 0 (ranges_of_entries r (m.0 + 1) rest) at
    (subst (λ (xs : List Extent). AllZip (IsSetOf p) (ranges_from r m.0 0 xs ++ ranges_of_entries r (m.0 + 1) rest) (map (λ a. arc_value a) c.loop-entry.own.now)) (sym own)
    (subst (λ (xs : List Entry). AllZip (IsSetOf p) (ranges_of_entries r m.0 xs) (map (λ a. arc_value a) c.loop-entry.own.now)) next m.1))
    in
    let says : git_entry_hit (graphs p) commit asked a ≡ false = entry-says (graphs p) commit asked a c.as_slice.result.now c.any_range_hit-hit.result.0 c.is_hit.result false own f.0 c.is_hit.ensures c.if-is_hit.false in
    (m.0 + 1, f.1, m.2 ∙ ap (list_any (git_entry_hit (graphs p) commit asked)) next ∙ ap (λ (b : Bool). b || list_any (git_entry_hit (graphs p) commit asked) rest) says)
