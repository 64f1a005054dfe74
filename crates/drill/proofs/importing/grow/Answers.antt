use Rattle.std.proofs.Common.{◌++◌, ◌∷◌, [], List, subst}
use Rattle.osv_prim.specs.declared.oid.CommitRow.{CommitRow}
use Rattle.schedule.specs.declared.step.Answer.{Answer}
use Rattle.schedule.specs.declared.step.Step.TheVariants.{Grow}
use Rattle.schedule.specs.Machine.{IsPlayed}
use Rattle.drill.specs.Imported.{Has, drill_key}
use Rattle.drill.proofs.Having.{has-rows, key-is}
use Rattle.drill.proofs.importing.grow.Goals as goal

pub returns-clause-has : goal.returns-clause-has
returns-clause-has g c a ks before only h =
    let p = subst (λ (x : Answer). IsPlayed (Grow c.args.by c.in_ok-repo_key.field-0 c.in_ok-copied.field-0 ∷ []) c.args.book.now (x ∷ []) c.one.new.book) c.in-Entry.is c.in_ok-answer.ensures.played in
    subst (λ (rs : List CommitRow). Has c.one.new.book a (drill_key ∷ []) (before ++ rs)) c.in_ok-copied.ensures
    (has-rows c.args.book.now c.one.new.book c.args.by c.in-Entry._place c.in_ok-repo_key.field-0 c.in_ok-copied.field-0 p.0 p.1.0 a ks before (key-is c.in_ok-repo_key.field-0 c.in_ok-repo_key.ensures) p.1.1 p.1.2 p.2 only h)
