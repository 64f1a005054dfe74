use Rattle.std.proofs.Common.{◌≡◌, subst, rules}
use Rattle.std.specs.Prelude.{Err}
use Rattle.std.specs.Arc.{arc_value}
use Rattle.book_model.specs.declared.answers.GrowFault.{GrowFault}
use Rattle.book_model.specs.declared.answers.GrowFault.TheVariants as faults
use Rattle.desk_calls.specs.Growing as calls
use Rattle.desk_answers.proofs.Joining.{tells-grown, tells-full, tells-moved}
use Rattle.desk_answers.proofs.repo.grow.Goals as goal

pub returns-in-Ok-grow_of : goal.returns-in-Ok-grow_of
returns-in-Ok-grow_of g c =
    tells-grown (g.D.Desk.caller c.args.desk.now) (g.D.Desk.caller c.grow_of.new.desk) c.args.closes c.args.key c.args.version (arc_value c.in-Ok-new.whole) c.args.whole c.in-Ok-grow_of.place c.len-commits.result c.commits_text.result.items
    c.done.result c.in-Ok-grow_of.ensures c.in-Ok-new.ensures.ok c.len-commits.ensures.len c.commits_text.ensures c.done.ensures

pub returns-in-Err-RepoMoved : goal.returns-in-Err-RepoMoved
returns-in-Err-RepoMoved g c =
    let old = g.D.Desk.caller c.args.desk.now in
    let new = g.D.Desk.caller c.grow_of.new.desk in
    let is : c.in-Err-RepoMoved.field-0 ≡ faults.RepoMoved c.in-Err-RepoMoved.seen c.in-Err-RepoMoved.now = search rules in
    tells-moved old new c.args.closes c.args.key c.args.version c.args.whole c.in-Err-RepoMoved.seen c.in-Err-RepoMoved.now c.refused.result
    (subst (λ (e : GrowFault). calls.GrownIs old c.args.key c.args.version (arc_value c.in-Ok-new.whole) (Err e) new) is c.in-Err-RepoMoved.ensures) c.refused.ensures

pub returns-in-Err-JournalFull : goal.returns-in-Err-JournalFull
returns-in-Err-JournalFull g c =
    let old = g.D.Desk.caller c.args.desk.now in
    let new = g.D.Desk.caller c.grow_of.new.desk in
    let is : c.in-Err-JournalFull.field-0 ≡ faults.JournalFull c.in-Err-JournalFull.used c.in-Err-JournalFull.limit = search rules in
    tells-full old new c.args.closes c.args.key c.args.version (arc_value c.in-Ok-new.whole) c.args.whole c.in-Err-JournalFull.used c.in-Err-JournalFull.limit c.refused-in-Err-JournalFull.result
    (subst (λ (e : GrowFault). calls.GrownIs old c.args.key c.args.version (arc_value c.in-Ok-new.whole) (Err e) new) is c.in-Err-JournalFull.ensures) c.in-Ok-new.ensures.ok c.refused-in-Err-JournalFull.ensures
