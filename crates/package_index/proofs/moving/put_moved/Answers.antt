use Rattle.std.proofs.Common.{sym, ap, ◌∙◌, arith}
use Rattle.std.specs.Prelude.{is_some}
use Rattle.std.specs.List.{list_any}
use Rattle.std.proofs.lemmas.Bool.{lt-ltb, ltb-true, false≢true}
use Rattle.package_index.specs.Noted.{is_entry}
use Rattle.package_index.proofs.Noting.{Entries}
use Rattle.package_index.proofs.Kept.{goes, goes-not, goes-none, entry-moved, entry-gone, got, not-got}
use Rattle.package_index.proofs.moving.put_moved.Goals as goal

pub returns-in_ok-push-in-Some-clause-noted : goal.returns-in_ok-push-in-Some-clause-noted
returns-in_ok-push-in-Some-clause-noted c n m j =
    let key = c.args.key in
    ap (λ (es : Entries). list_any (is_entry n m j) es) c.in_ok-push-in-Some.ensures.items
    ∙ entry-moved c.args.entries.now.items c.args.moved.now c.args.count n m j key c.args.place c.in-Some.new.now (goes c.args.moved.now c.args.count c.args.place c.in-Some.new.now j (got c.args.moved.now c.args.place c.in-Some.new.now (ltb-true c.args.place _ (sym c.in-Some.ensures.lookup.0)) c.in-Some.ensures.lookup.1) c.if-new-count.true)

pub returns-in_default-clause-noted : goal.returns-in_default-clause-noted
returns-in_default-clause-noted c n m j =
    entry-gone c.args.entries.now.items c.args.moved.now c.args.count n m j c.args.key c.args.place (goes-not c.args.moved.now c.args.count c.args.place c.in-Some.new.now j (got c.args.moved.now c.args.place c.in-Some.new.now (ltb-true c.args.place _ (sym c.in-Some.ensures.lookup.0)) c.in-Some.ensures.lookup.1) (λ h. omega (arith, h, c.if-new-count.false)))

pub returns-in_default-2-clause-noted : goal.returns-in_default-2-clause-noted
returns-in_default-2-clause-noted c n m j = entry-gone c.args.entries.now.items c.args.moved.now c.args.count n m j c.args.key c.args.place (goes-none c.args.moved.now c.args.count c.args.place j (not-got c.args.moved.now c.args.place (λ h. false≢true (sym (ap is_some c.in_default.is) ∙ c.get.ensures.lookup.0 ∙ lt-ltb c.args.place _ h))))
