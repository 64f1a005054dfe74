use Rattle.std.proofs.Common.{[], ◌∷◌, ◌++◌, take, sym, ap, subst, ◌∙◌}
use Rattle.history.specs.Entries.{History, imports}
use Rattle.impact_job.specs.Tables.{IsPrefixOf}
use Rattle.book.specs.declared.entry.Entry.{Entry}
use Rattle.book.specs.Entries.{past, history_of, IsWhole}
use Rattle.book.proofs.Growing.{whole-at}
use Rattle.book.proofs.Opening.{later_step}
use Rattle.book.proofs.prefix.prefix_over.Goals as goal

pub loop-entry-preserved : goal.loop-entry-preserved
loop-entry-preserved c = λ h st w.
    let before : History = h ++ history_of (take c.loop-entry.entry-index c.args.later.now) in
    let whole = whole-at h c.args.later.now c.loop-entry.entry-index c.entry-item.result c.loop-entry-test.true w in
    subst (λ (x : History). IsPrefixOf c.add.new.prefix (imports h) (imports x))
    (ap (λ (x : Entry). (h ++ history_of (take c.loop-entry.entry-index c.args.later.now)) ++ past x ∷ []) c.entry-item.is
    ∙ later_step h c.args.later.now c.loop-entry.entry-index c.entry-item.result c.loop-entry-test.true)
    (c.in_ok-add.ensures (imports h) (h ++ history_of (take c.loop-entry.entry-index c.args.later.now)) (c.loop-entry.invariant h st w)
    (subst (λ (x : Entry). IsWhole (h ++ history_of (take c.loop-entry.entry-index c.args.later.now)) x) (sym c.entry-item.is) whole))
