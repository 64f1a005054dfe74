use Rattle.std.proofs.Common.{◌≡◌, sym, ap, ◌∙◌, arith}
use Rattle.std.specs.Prelude.{Some, slice_get}
use Rattle.repo_index.specs.Numbers.{AreNumbersOf}
use Rattle.repo_index.proofs.Zipped.{some-both, within}
use Rattle.repo_index.proofs.lists.kept_at.Goals as goal

pub returns-in-Some : goal.returns-in-Some
returns-in-Some c = λ keys old new r same numbers at.
    let is : c.in-Some.now ≡ c.args.place = omega (arith, c.if-now-place.true) in
    let here : slice_get c.args.moved.now c.args.index ≡ Some c.args.place = sym c.place_at.ensures ∙ c.in-Some.is ∙ ap Some is in
    let before = same c.args.index c.args.place here (within new c.args.place r at) ∙ at in
    some-both (AreNumbersOf keys) (λ own. own.now) old c.args.base.now c.args.index r c.numbers_at.result numbers before c.numbers_at.ensures
