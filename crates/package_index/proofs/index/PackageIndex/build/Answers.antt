use Rattle.std.proofs.Common.{Bool, ◌&&◌, ◌||◌, eqb, List, map, sym, ap, ◌∙◌, arith}
use Rattle.std.specs.Arc.{arc_value}
use Rattle.std.proofs.lemmas.List.{take_all}
use Rattle.osv_record.specs.Advisories.{Advisory}
use Rattle.package_index.specs.Listing.{lists, listed}
use Rattle.package_index.specs.Noted.{noted}
use Rattle.package_index.proofs.Rising.{has, same-members, listed-rising, listed-more}
use Rattle.package_index.proofs.index.PackageIndex.build.Goals as goal

pub loop-index-preserved : goal.loop-index-preserved
loop-index-preserved c =
    let k = c.loop-index.index in
    record {
      sound = c.in_ok-add_record.ensures.sound;
      noted = λ e t i.
          c.in_ok-add_record.ensures.noted e t i
          ∙ ap (λ (r : Advisory). noted c.loop-index.growing e t i || (lists (record { ecosystem = e; name = t }) r && eqb k i)) c.deref.ensures
          ∙ ap (λ (b : Bool). b || (lists (record { ecosystem = e; name = t }) (arc_value c.index-records-index.result) && eqb k i)) (c.loop-index.invariant.noted e t i)
          ∙ sym (listed-more (λ r. arc_value r) c.args.records.now k c.index-records-index.result c.loop-index-test.true c.index-records-index.is (record { ecosystem = e; name = t }) i);
    }

pub returns : goal.returns
returns c asked =
    let all = λ (rs : List _). listed (map (λ r. arc_value r) rs) asked in
    same-members _ (all c.args.records.now) (c.in_ok-index.ensures.ascending asked) (listed-rising 0 (map (λ r. arc_value r) c.args.records.now) asked)
    (λ i. c.in_ok-index.ensures.same asked i ∙ c.loop-index.invariant.noted asked.ecosystem asked.name i ∙ ap (λ (rs : List _). has (all rs) i) (take_all c.loop-index.index c.args.records.now (omega (arith, c.loop-index-test.false))))
