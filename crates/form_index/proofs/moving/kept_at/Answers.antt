use Rattle.std.proofs.Common.{◌≡◌, sym, ap, ◌∙◌, arith}
use Rattle.std.specs.Prelude.{Some, slice_get}
use Rattle.std.proofs.lemmas.Option.{slice_get_within}
use Rattle.form_index.proofs.Placing.{kept-in}
use Rattle.form_index.proofs.moving.kept_at.Goals as goal

pub returns-in-Some : goal.returns-in-Some
returns-in-Some c = λ parts old new r count stay kept at.
    let is : c.in-Some.now ≡ c.args.place = omega (arith, c.if-now-place.true) in
    let here : slice_get c.args.moved.now c.args.index ≡ Some c.args.place = sym c.moved_to.ensures ∙ c.in-Some.is ∙ ap Some is in
    let before = stay c.args.index c.args.place here (slice_get_within new c.args.place r at) ∙ at in
    kept-in parts old c.args.places.now c.args.index c.args.count r c.place_in.result count kept before c.place_in.ensures.there c.place_in.ensures.within
