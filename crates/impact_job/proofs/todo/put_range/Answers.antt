use Rattle.std.proofs.Common.{◌≡◌, ℕ, ◌+◌, Bool, true, List, ◌++◌, length, map, Option, Some, refl, ap, sym, subst, ◌∙◌, arith}
use Rattle.std.specs.Prelude.{is_some, slice_get, option_map}
use Rattle.std.specs.Arc.{arc_value}
use Rattle.osv_record.specs.Advisories.{Extent, is_git}
use Rattle.history.specs.Pieces.{GitRange, ranges_from, git_ranges_in}
use Rattle.impact_set.specs.Standing.{Known}
use Rattle.impact_job.specs.declared.tables.Todo.{Todo}
use Rattle.impact_job.specs.Walks.{IsBegun, AreOld, IsOld}
use Rattle.impact_job.proofs.Walking.{begun-git, begun-number, begun-push, old-git}
use Rattle.impact_job.proofs.todo.put_range.Goals as goal

pub returns : goal.returns
returns c = λ b p anew rest more later k new w o.
    let r = arc_value c.args.advisory.now in
    let e : ℕ = c.args.place.0 in
    let i : ℕ = c.args.place.1 in
    let x : GitRange = record { advisory = r; entry = e; range = i; extent = c.args.range.now } in
    let xs : List GitRange = ranges_from r e (i + 1) rest in
    let g : Bool = is_git c.args.range.now.kind in
    let todo : List Todo = c.args.todo.now.items in
    let sets : List Known = map (λ a. arc_value a) c.args.sets.now in
    let its : is_some x.extent.repo ≡ g = subst (λ (y : Extent). is_some y.repo ≡ is_git y.kind) c.range.view_is c.range.invariant.0 in
    let named : x.extent.repo ≡ Some c.in-Some.key = ap (λ (y : Extent). y.repo) (sym c.range.view_is) ∙ c.in-Some.is in
    let git : g ≡ true = sym its ∙ ap is_some named in
    let next = begun-git b p g todo x xs later git w in
    let old = old-git b anew g x xs more sets git o in
    let number : c.in_ok-number.number ≡ length todo = omega (arith, c.in_ok-number.ensures, c.len.ensures, c.args.todo.now.ok.0) in
    let at : slice_get (git_ranges_in p) c.in_ok-number.number ≡ Some x = ap (λ (n : ℕ). slice_get (git_ranges_in p) n) number ∙ begun-number b p todo x (xs ++ later) next in
    let one =
    c.in_ok-one.ensures b p x k refl refl refl named at
    (subst (λ (t : Bool). IsOld t b x (option_map (λ a. arc_value a.now) c.first_set.result.0)) (sym new) (subst (λ (s : Option Known). IsOld anew b x s) (sym c.first_set.ensures.first) old.0))
    in (
      subst (λ (ts : List Todo). IsBegun b p ts (xs ++ later)) (sym c.in_ok-push.ensures.items) (begun-push b p todo c.in_ok-one.one x (xs ++ later) next one),
      subst (λ (ks : List Known). AreOld anew b (xs ++ more) ks) (sym c.first_set.ensures.later) old.1,
    )
