use Rattle.std.proofs.Common.{◌≡◌, ◌+◌, ℕ, List, [], ◌∷◌, ◌++◌, Option, map, take, sym, ap, subst, ◌∙◌, append_assoc}
use Rattle.std.specs.List.{AllZip}
use Rattle.std.proofs.lemmas.List.{map_more}
use Rattle.osv_prim.specs.declared.package.PackageKey.{PackageKey}
use Rattle.osv_record.specs.Advisories.{Entry, Extent}
use Rattle.range_hits.specs.declared.form.CompiledRange.{CompiledRange}
use Rattle.range_hits.specs.Forms.{IsFormIn, Ranged, with_package}
use Rattle.range_hits.proofs.Parting.{zip-both}
use Rattle.range_hits.proofs.compiling.push_entry.Goals as goal

pub loop-range-preserved : goal.loop-range-preserved
loop-range-preserved c = λ before all.
    let key : Option PackageKey = c.args.entry.now.«package» in
    let items = c.as_slice-range-items.result.now in
    let k = c.loop-range.range-index in
    let item : Extent = c.range-item.result in
    let forms = c.loop-range.forms.items in
    let form = c.in_ok-form_of.field-0 in
    let is = subst (λ (o : Option PackageKey). IsFormIn (o, item) form) (ap (λ (a : Entry). a.«package») c.entry.view_is) c.in_ok-form_of.ensures in
    let more : with_package key (take (k + 1) items) ≡ with_package key (take k items) ++ (key, item) ∷ [] =
    map_more (λ x. (key, x)) items k item c.loop-range-test.true ∙ ap (λ (x : Extent). with_package key (take k items) ++ (key, x) ∷ []) (sym c.range-item.is) in
    let longer = zip-both IsFormIn (before ++ with_package key (take k items)) ((key, item) ∷ []) forms (form ∷ []) (c.loop-range.invariant before all) (is, tt) in
    subst (λ (fs : List CompiledRange). AllZip IsFormIn (before ++ with_package key (take (k + 1) items)) fs) (sym c.in_ok-push.ensures.items)
    (subst (λ (xs : List Ranged). AllZip IsFormIn xs (forms ++ form ∷ [])) (append_assoc before (with_package key (take k items)) ((key, item) ∷ []) ∙ ap (λ (xs : List Ranged). before ++ xs) (sym more)) longer)
