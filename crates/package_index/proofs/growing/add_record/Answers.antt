use Rattle.std.proofs.Common.{ℕ, Bool, ◌&&◌, ◌||◌, eqb, List, take, sym, ap, ◌∙◌, arith}
use Rattle.std.specs.List.{list_any}
use Rattle.std.proofs.lemmas.List.{take_all}
use Rattle.osv_record.specs.Advisories.{Advisory, Entry}
use Rattle.package_index.specs.Listing.{has_package}
use Rattle.package_index.specs.Noted.{noted}
use Rattle.package_index.proofs.Matching.{more-entries, any-more}
use Rattle.package_index.proofs.growing.add_record.Goals as goal

pub loop-entry-preserved : goal.loop-entry-preserved
loop-entry-preserved c =
    let items = c.as_slice-entry-items.result.now in
    let k = c.loop-entry.entry-index in
    let here = λ (i : ℕ). eqb c.args.index i in
    let old = c.args.growing.now in
    record {
      sound = c.in_ok-add_entry.ensures.sound;
      noted = λ e t i.
          let p = λ (a : Entry). has_package (record { ecosystem = e; name = t }) a.«package» in
          c.in_ok-add_entry.ensures.noted e t i
          ∙ ap (λ (b : Bool). b || (p c.entry-item.result && here i)) (c.loop-entry.invariant.noted e t i)
          ∙ more-entries (noted old e t i) (list_any p (take k items)) (p c.entry-item.result) (here i)
          ∙ ap (λ (b : Bool). noted old e t i || (b && here i)) (sym (any-more p items k c.entry-item.result c.loop-entry-test.true c.entry-item.is));
    }

pub returns-clause-noted : goal.returns-clause-noted
returns-clause-noted c e t i =
    let p = λ (a : Entry). has_package (record { ecosystem = e; name = t }) a.«package» in
    let k = c.loop-entry.entry-index in
    let items = c.as_slice-entry-items.result.now in
    let old = c.args.growing.now in
    c.loop-entry.invariant.noted e t i ∙ ap (λ (es : List Entry). noted old e t i || (list_any p es && eqb c.args.index i)) (take_all k items (omega (arith, c.loop-entry-test.false)))
    ∙ ap (λ (es : List Entry). noted old e t i || (list_any p es && eqb c.args.index i)) (c.as_slice-entry-items.ensures ∙ ap (λ (r : Advisory). r.affected) c.advisory.view_is)
