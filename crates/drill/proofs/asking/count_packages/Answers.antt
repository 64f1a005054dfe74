use Rattle.std.proofs.Common.{rules, ◌≡◌, ◌+◌, ℕ, ap, ◌∙◌, arith}
use Rattle.osv_prim.specs.declared.subject.Subject.{Subject}
use Rattle.drill.specs.Drilled.{all_hits, package_hits}
use Rattle.drill.proofs.Counting.{no-package, package-more}
use Rattle.drill.proofs.asking.count_packages.Goals as goal

pub loop-number-init : goal.loop-number-init
loop-number-init g c = (c.requires.settings, c.requires.published, λ a rows h. (h, no-package a rows))

pub loop-number-preserved : goal.loop-number-preserved
loop-number-preserved g c =
    let now : c.in_ok-sum.sum ≡ c.loop-number.sum + c.in_ok-hits.hits = search rules in (
      c.count.ensures.settings ∙ c.loop-number.invariant.0,
      c.in_ok-hits.ensures.published,
      λ a rows h.
          let before = c.loop-number.invariant.2 a rows h in
          let found = c.in_ok-hits.ensures.has a rows before.0 in
          (found.0, package-more c.loop-number.number c.loop-number.sum c.in_ok-hits.hits c.in_ok-sum.sum a rows before.1 (found.1 ∙ ap (λ (s : Subject). all_hits a rows s) c.in_ok-subject.ensures) now),
    )

pub returns-clause-has : goal.returns-clause-has
returns-clause-has g c a rows h =
    let before = c.loop-number.invariant.2 a rows h in
    let end : c.loop-number.number ≡ 10 = omega (arith, c.loop-number.auto.number-end, c.loop-number-test.false) in
    (before.0, before.1 ∙ ap (λ (n : ℕ). package_hits n a rows) end)
