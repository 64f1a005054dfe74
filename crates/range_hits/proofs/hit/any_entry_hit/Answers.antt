use Rattle.std.proofs.Common.{◌≡◌, ◌-◌, ℕ, List, ◌∷◌, Bool, ◌||◌, Some, length, take, drop, sym, ap, subst, ◌∙◌, arith}
use Rattle.std.specs.List.{AllZip, list_any}
use Rattle.std.proofs.lemmas.List.{length-map, length-drop, take_all}
use Rattle.osv_record.specs.Advisories.{Entry}
use Rattle.evaluate.specs.Hits.{version_entry_hit}
use Rattle.range_hits.specs.declared.form.CompiledRange.{CompiledRange}
use Rattle.range_hits.specs.Forms.{IsFormIn, ranges_of, with_package}
use Rattle.range_hits.proofs.Parting.{zip-parts, first-rest}
use Rattle.range_hits.proofs.hit.any_entry_hit.Goals as goal

pub returns-then-entry_hit : goal.returns-then-entry_hit
returns-then-entry_hit c = λ all read.
    let m = c.loop-rest.invariant all read in
    let rest = c.loop-rest.rest.now in
    let entry : Entry = c.entry-item.result in
    let later : List Entry = drop 1 rest in
    let hit = version_entry_hit c.args.asked.now (Some c.args.version.now) in
    let whole = first-rest rest entry _ c.in-len1-up.len_at_least c.entry-item.is in
    let count : c.len.result ≡ length (with_package entry.«package» entry.ranges) =
    c.len.ensures ∙ ap (λ (a : Entry). length a.ranges) c.entry.view_is ∙ sym (length-map entry.ranges (λ x. (entry.«package», x))) in
    let parts = zip-parts IsFormIn (with_package entry.«package» entry.ranges) (ranges_of later) c.loop-rest.own.now c.len.result count (subst (λ (es : List Entry). AllZip IsFormIn (ranges_of es) c.loop-rest.own.now) whole m.0) in
    let is = sym c.if-entry_hit.true ∙ c.entry_hit.ensures (subst (λ (fs : List CompiledRange). AllZip IsFormIn (with_package entry.«package» entry.ranges) fs) (sym c.parted.ensures.first) parts.0) read in
    ap (λ (b : Bool). b || list_any hit later) is ∙ sym (ap (list_any hit) whole) ∙ m.1

pub loop-rest-preserved : goal.loop-rest-preserved
loop-rest-preserved c = λ all read.
    let m = c.loop-rest.invariant all read in
    let rest = c.loop-rest.rest.now in
    let entry : Entry = c.entry-item.result in
    let later : List Entry = drop 1 rest in
    let hit = version_entry_hit c.args.asked.now (Some c.args.version.now) in
    let whole = first-rest rest entry _ c.in-len1-up.len_at_least c.entry-item.is in
    let count : c.len.result ≡ length (with_package entry.«package» entry.ranges) =
    c.len.ensures ∙ ap (λ (a : Entry). length a.ranges) c.entry.view_is ∙ sym (length-map entry.ranges (λ x. (entry.«package», x))) in
    let parts = zip-parts IsFormIn (with_package entry.«package» entry.ranges) (ranges_of later) c.loop-rest.own.now c.len.result count (subst (λ (es : List Entry). AllZip IsFormIn (ranges_of es) c.loop-rest.own.now) whole m.0) in
    let is = sym c.if-entry_hit.false ∙ c.entry_hit.ensures (subst (λ (fs : List CompiledRange). AllZip IsFormIn (with_package entry.«package» entry.ranges) fs) (sym c.parted.ensures.first) parts.0) read in
    let same : take (length rest - 1) later ≡ later = take_all (length rest - 1) later (omega (arith, length-drop 1 rest)) in
    subst (λ (es : List Entry). AllZip IsFormIn (ranges_of es) c.parted.result.1.now × (list_any hit es ≡ list_any hit c.args.entries.now)) (sym same)
    (subst (λ (fs : List CompiledRange). AllZip IsFormIn (ranges_of later) fs) (sym c.parted.ensures.later) parts.1, ap (λ (b : Bool). b || list_any hit later) is ∙ sym (ap (list_any hit) whole) ∙ m.1)
