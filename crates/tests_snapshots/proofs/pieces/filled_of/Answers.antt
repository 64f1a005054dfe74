use Rattle.std.proofs.Common.{rules, ◌≡◌, ℕ, ◌+◌, ◌<◌, ◌≤◌, List, [], ◌∷◌, ◌++◌, length, map, take, get_or, refl, ap, sym, subst, ◌∙◌, arith}
use Rattle.std.specs.Prelude.{Some, slice_get}
use Rattle.std.specs.Arc.{arc_value}
use Rattle.std.specs.List.{AllZip}
use Rattle.std.proofs.lemmas.List.{length-map, take_all}
use Rattle.history.specs.Pieces.{GitRange, git_ranges_in}
use Rattle.impact_job.specs.declared.tables.Todo.{Todo}
use Rattle.impact_job.specs.Tables.{IsTodoOf, IsMadeFor, HasSet}
use Rattle.impact_job.proofs.Walking.{zip-push}
use Rattle.impact_job.proofs.Grouping.{all-taken}
use Rattle.snapshot.specs.declared.job.Place.{Place}
use Rattle.snapshot.specs.Jobs.{planned_place}
use Rattle.tests_snapshots.proofs.Doing.{todo-at, item-at}
use Rattle.tests_snapshots.proofs.pieces.filled_of.Goals as goal

pub loop-place-preserved : goal.loop-place-preserved
loop-place-preserved g c =
    let m = c.loop-place.invariant in
    let i : ℕ = c.loop-place.place-index in
    let todo : List Todo = (arc_value c.args.plan).todo.items in
    let lt : i < length todo = subst (λ (n : ℕ). i < n) (ap length c.requires.places ∙ length-map todo planned_place) c.loop-place-test.true in
    let here : c.place-item.result ≡ get_or (map planned_place todo) i c.place-item.result = c.place-item.is ∙ ap (λ (ps : List Place). get_or ps i c.place-item.result) c.requires.places in
    let at = todo-at todo i c.place-item.result lt here in
    let number : c.in_ok-number.number ≡ i = search (rules, m.0) in (
      search (rules, m.0),
      (
        subst (λ (ts : List Todo). AllZip HasSet ts c.push.new.self.items) (sym at.more)
            (subst (λ vs. AllZip HasSet (take i todo ++ at.item ∷ []) vs) (sym c.in_ok-push.ensures.items) (zip-push HasSet (take i todo) c.loop-place.made.items at.item c.in_ok-made_at.field-0 m.1.0 (c.in_ok-made_at.ensures.whole at.item at.is))),
        λ b p is.
            let x = item-at (IsTodoOf b p) (git_ranges_in p) todo i lt is.todo in
            subst (λ (xs : List GitRange). AllZip (IsMadeFor p) xs c.push.new.self.items) (sym x.more)
            (subst (λ vs. AllZip (IsMadeFor p) (take i (git_ranges_in p) ++ x.item ∷ []) vs) (sym c.in_ok-push.ensures.items)
            (zip-push (IsMadeFor p) (take i (git_ranges_in p)) c.loop-place.made.items x.item c.in_ok-made_at.field-0 (m.1.1 b p is)
            (c.in_ok-made_at.ensures.made b p x.item is (ap (λ (n : ℕ). slice_get (git_ranges_in p) n) number ∙ x.there)))),
      ),
    )

pub returns : goal.returns
returns g c = λ b p is.
    let m = c.loop-place.invariant in
    let i : ℕ = c.loop-place.place-index in
    let todo : List Todo = (arc_value c.args.plan).todo.items in
    let all : length todo ≤ i = omega (arith, c.loop-place-test.false, ap length c.requires.places, length-map todo planned_place) in
    record {
      plan = is;
      made = subst (λ (xs : List GitRange). AllZip (IsMadeFor p) xs c.loop-place.made.items) (all-taken (IsTodoOf b p) (git_ranges_in p) todo i all is.todo) (m.1.1 b p is);
      whole = subst (λ (ts : List Todo). AllZip HasSet ts c.loop-place.made.items) (take_all i todo all) m.1.0;
    }
