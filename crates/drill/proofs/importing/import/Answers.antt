use Rattle.std.proofs.Common.{rules, ◌≡◌, ◌++◌, ◌∷◌, [], subst}
use Rattle.std.specs.Arc.{arc_value}
use Rattle.osv_record.specs.Advisories.{Advisory}
use Rattle.schedule.specs.declared.step.Answer.{Answer}
use Rattle.schedule.specs.declared.step.Step.TheVariants.{Import}
use Rattle.schedule.specs.Machine.{IsPlayed}
use Rattle.drill.specs.Imported.{Has}
use Rattle.drill.proofs.Having.{has-import}
use Rattle.drill.proofs.importing.import.Goals as goal

pub returns-clause-has : goal.returns-clause-has
returns-clause-has g c a ks rows h =
    let p = subst (λ (x : Answer). IsPlayed (Import c.args.by c.in_ok-shared.shared ∷ []) c.args.book.now (x ∷ []) c.one.new.book) c.in-Entry.is c.in_ok-answer.ensures.played in
    let same : arc_value c.in_ok-shared.shared ≡ arc_value c.args.advisory.now = search rules in
    subst (λ (r : Advisory). Has c.one.new.book (a ++ r ∷ []) ks rows) same
    (has-import c.args.book.now c.one.new.book c.args.by c.in-Entry._place (arc_value c.in_ok-shared.shared) p.0 p.1.0 a ks rows p.1.1 p.1.2 p.2 h)
