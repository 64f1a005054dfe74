use Rattle.std.proofs.Common.{rules, ◌≤◌, ◌++◌, List, length, map, subst, ◌∙◌, arith}
use Rattle.std.specs.Arc.{arc_value}
use Rattle.std.proofs.lemmas.List.{take_all}
use Rattle.osv_record.specs.Advisories.{Advisory}
use Rattle.drill.specs.Imported.{Has}
use Rattle.drill.proofs.Having.{one-more}
use Rattle.drill.proofs.importing.import_all.Goals as goal

pub loop-advisory-preserved : goal.loop-advisory-preserved
loop-advisory-preserved g c = (
  omega arith,
  c.import.ensures.settings ∙ c.loop-advisory.invariant.1,
  λ a ks rows h.
      subst (λ (xs : List Advisory). Has c.import.new.book xs ks rows)
      (one-more (λ x. arc_value x) c.args.advisories.now c.loop-advisory.advisory-index c.advisory-item.result a c.loop-advisory-test.true c.advisory-item.is)
      (c.in_ok-import.ensures.has _ ks rows (c.loop-advisory.invariant.2 a ks rows h)),
)

pub returns-clause-has : goal.returns-clause-has
returns-clause-has g c a ks rows h =
    let end : length c.args.advisories.now ≤ c.loop-advisory.advisory-index = search (rules, arith) in
    subst (λ xs. Has c.loop-advisory.book (a ++ map (λ x. arc_value x) xs) ks rows) (take_all c.loop-advisory.advisory-index c.args.advisories.now end) (c.loop-advisory.invariant.2 a ks rows h)
