use Rattle.std.proofs.Common.{rules, ℕ, ◌<◌, refl, sym, subst}
use Rattle.std.specs.Prelude.{Option, option_map}
use Rattle.std.specs.Arc.{arc_value}
use Rattle.history.specs.Entries.{newest}
use Rattle.book_model.specs.State.{State}
use Rattle.book_model.specs.Steps.{Finds}
use Rattle.snapshot.specs.Snapshots.{StandsFor}
use Rattle.schedule.specs.Machine.{IsAsked}
use Rattle.schedule.proofs.Looking.{last-found, paged}
use Rattle.schedule.proofs.calls.look.Goals as goal

pub returns-in-None : goal.returns-in-None
returns-in-None g c =
    let s : State = c.args.book.now in
    let lt : c.args.by < s.callers = search rules in (
      lt,
      (
        newest s.history,
        subst (λ (o : Option ℕ). IsAsked o s (newest s.history)) (sym c.in-None.is) refl,
        paged s (newest s.history) c.args.size (arc_value c.in_ok-newest-in-None.newest.snapshot) c.deref.result.now c.args.subject.now (option_map (λ id. id.now) c.args.after) c.in_ok-page-in-None.page
            c.deref.ensures c.in_ok-newest-in-None.ensures.1 c.requires c.in_ok-page-in-None.ensures.page,
        refl,
      ),
    )

pub returns-in-Some-Here : goal.returns-in-Some-Here
returns-in-Some-Here g c =
    let s : State = c.args.book.now in
    let lt : c.args.by < s.callers = search rules in
    let found = last-found (λ a p. StandsFor (arc_value a) p) s c.in-Some.number c.look-in-Some.new.found.items c.pop.new.self.items c.in-Some-Here.field-0 c.in-Some-Here.ensures.items c.in_ok-_newest-in-Some.ensures.2 in
    let f = subst (λ x. Finds (λ a p. StandsFor (arc_value a) p) s c.in-Some.number x) c.in-Some-Here.field-0-is found in (
      lt,
      (
        c.in-Some.number,
        subst (λ (o : Option ℕ). IsAsked o s c.in-Some.number) (sym c.in-Some.is) (refl, f.0),
        paged s c.in-Some.number c.args.size (arc_value c.in-Some-Here.snapshot) c.deref-in-Some-Here.result.now c.args.subject.now (option_map (λ id. id.now) c.args.after) c.in_ok-page-in-Some-Here.page
            c.deref-in-Some-Here.ensures f.1 c.requires c.in_ok-page-in-Some-Here.ensures.page,
        refl,
      ),
    )
