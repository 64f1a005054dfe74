use Rattle.std.proofs.Common.{◌≡◌, ◌+◌, List, [], ◌∷◌, ◌++◌, take, sym, ap, subst, ◌∙◌}
use Rattle.std.specs.List.{AllZip}
use Rattle.std.proofs.lemmas.List.{take_more}
use Rattle.osv_record.specs.Advisories.{Entry}
use Rattle.range_hits.specs.Forms.{IsFormIn, Ranged, ranges_of}
use Rattle.range_hits.proofs.Parting.{ranges-push}
use Rattle.range_hits.proofs.compiling.compile.Goals as goal

pub loop-entry-preserved : goal.loop-entry-preserved
loop-entry-preserved c =
    let items = c.as_slice-entry-items.result.now in
    let k = c.loop-entry.entry-index in
    let item : Entry = c.entry-item.result in
    let more = ap ranges_of (take_more items k item c.loop-entry-test.true ∙ ap (λ (x : Entry). take k items ++ x ∷ []) (sym c.entry-item.is)) ∙ ranges-push (take k items) item in
    subst (λ (xs : List Ranged). AllZip IsFormIn xs c.push_entry.new.forms.items) (sym more) (c.in_ok-push_entry.ensures (ranges_of (take k items)) c.loop-entry.invariant)
