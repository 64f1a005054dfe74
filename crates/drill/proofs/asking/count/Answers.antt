use Rattle.std.proofs.Common.{rules, ◌≡◌, ◌≤◌, [], ◌∷◌, false, length, sym, ap, subst, ◌∙◌}
use Rattle.std.specs.Prelude.{None}
use Rattle.history.specs.Entries.{History, imports}
use Rattle.book_model.specs.State.{published}
use Rattle.schedule.specs.declared.step.Answer.{Answer}
use Rattle.schedule.specs.declared.step.Step.TheVariants.{Look}
use Rattle.schedule.specs.Machine.{IsPlayed}
use Rattle.drill.proofs.Having.{has-same}
use Rattle.drill.proofs.Playing.{looked}
use Rattle.drill.proofs.Counting.{counted}
use Rattle.drill.proofs.asking.count.Goals as goal

pub returns-in-Page-clause-has : goal.returns-in-Page-clause-has
returns-in-Page-clause-has g c a rows h =
    let p = subst (λ (x : Answer). IsPlayed (Look 0 c.args.subject None None ∷ []) c.args.book.now (x ∷ []) c.one.new.book) c.in-Page.is c.in_ok-page.ensures.played in
    let l = looked c.args.book.now c.one.new.book 0 c.args.subject c.in-Page.page p in
    let last : c.in-Page.page.more ≡ false = search rules in (
      has-same c.args.book.now c.one.new.book a _ rows (ap (λ (x : History). imports x) l.0) h,
      ap (λ xs. length xs) c.as_slice.ensures.value ∙ counted c.args.book.now a rows c.args.subject c.in-Page.page c.requires.published h last l.1,
    )

pub returns-in-Page-clause-published : goal.returns-in-Page-clause-published
returns-in-Page-clause-published g c =
    let p = subst (λ (x : Answer). IsPlayed (Look 0 c.args.subject None None ∷ []) c.args.book.now (x ∷ []) c.one.new.book) c.in-Page.is c.in_ok-page.ensures.played in
    let l = looked c.args.book.now c.one.new.book 0 c.args.subject c.in-Page.page p in
    subst (λ (x : History). length (imports x) ≤ published x) (sym l.0) c.requires.published
