use Rattle.std.proofs.Common.{◌≡◌, List, Option, map, sym, ap, subst, ◌∙◌}
use Rattle.std.specs.Prelude.{option_map}
use Rattle.std.specs.Arc.{arc_value}
use Rattle.std.specs.List.{AllZip, list_any}
use Rattle.osv_prim.specs.declared.package.PackageKey.{PackageKey}
use Rattle.osv_record.specs.Advisories.{Entry, Advisory}
use Rattle.evaluate.specs.Hits.{git_entry_hit}
use Rattle.history.specs.Prefixes.{graphs}
use Rattle.history.specs.Pieces.{ranges_of_entries}
use Rattle.piece_work.specs.Sets.{IsSetOf}
use Rattle.set_hits.proofs.hit.git_hit.Goals as goal

pub returns : goal.returns
returns c = λ p commit at h.
    let r : Advisory = c.args.advisory.now in
    let own : c.as_slice.result.now ≡ r.affected = c.as_slice.ensures ∙ ap (λ (y : Advisory). y.affected) c.advisory.view_is in
    let asked : Option PackageKey = option_map (λ k. k.now) c.args.asked in
    c.any_entry_hit.ensures p commit r 0 at (subst (λ (xs : List Entry). AllZip (IsSetOf p) (ranges_of_entries r 0 xs) (map (λ a. arc_value a) c.args.sets.now)) (sym own) h)
    ∙ ap (list_any (git_entry_hit (graphs p) commit asked)) own
