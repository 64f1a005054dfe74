use Rattle.std.proofs.Common.{◌≡◌, ◌∷◌, ◌++◌, [], List, map, length, sym, ap, subst, ◌∙◌}
use Rattle.std.specs.Arc.{arc_value}
use Rattle.std.proofs.lemmas.List.{length-map}
use Rattle.form_index.specs.Index.{AreIndexed, Part, forms_of}
use Rattle.form_index.proofs.Placing.{all-placed}
use Rattle.form_index.proofs.index.renewed.Goals as goal

pub returns : goal.returns
returns c = λ old stay kept.
    let parts : List Part = map (λ p. arc_value p) c.args.parts.now in
    let rs = map (λ a. arc_value a) c.args.records.now in
    let places = c.in_ok-places.field-0.places.items in
    let made = c.in_ok-places.field-0.forms.items in
    let count : c.in_ok-count.count ≡ length parts = c.in_ok-count.ensures ∙ sym (length-map c.args.parts.now (λ p. arc_value p)) in
    let placed = c.in_ok-places.ensures parts old count stay kept in
    let all : map (λ p. arc_value p) c.in_ok-parts.parts.items ≡ parts ++ made ∷ [] = c.in_ok-parts.ensures ∙ ap (λ (fs : Part). parts ++ fs ∷ []) c.from_vec.ensures in
    subst (λ (ps : List Part). AreIndexed rs (forms_of ps places)) (sym all) (all-placed parts made rs places placed)
